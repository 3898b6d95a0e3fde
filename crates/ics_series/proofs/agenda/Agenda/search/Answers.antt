use Rattle.std.proofs.Common.{◌≡◌, ◌∙◌, ◌++◌, ap, List, length, map, option_map, refl, rules, sym, subst}
use Rattle.std.proofs.lemmas.List.{length-map}
use Rattle.std.proofs.lemmas.List.Folds.{flat_map-map}
use Rattle.std.proofs.lemmas.Simd.{map-map}
use Rattle.ics_file.specs.File.{said_by}
use Rattle.ics_starts.specs.Clocks.{display_clock}
use Rattle.ics_listing.specs.Entry.{entry_cmp, key_rank, Entry}
use Rattle.ics_series.specs.AgendaParts.{part_coming, part_sources}
use Rattle.ics_listing.specs.Listing.{IsListing}
use Rattle.ics_listing.specs.Merges.{merge_all}
use Rattle.ics_listing.specs.FeedSources.Source.{Of}
use Rattle.ics_listing.specs.Uids.{AreSortedFrom}
use Rattle.ics_series.specs.Meets.{IsToCome}
use Rattle.ics_series.specs.Sources.{AreApart}
use Rattle.ics_series.proofs.SinceLemmas.{by-result, merged-since, part-since, parts-since}
use Rattle.ics_series.proofs.SinglesLemmas.{pushed-listing}
use Rattle.ics_series.proofs.UidLemmas.{parts-sorted}
use Rattle.ics_series.proofs.SourceLemmas.{sources-behind}
use Rattle.ics_series.proofs.agenda.Agenda.search.Goals as goal

pub new-requires-clause-near : goal.new-requires-clause-near
new-requires-clause-near c = c.requires.near

pub new-requires-clause-spans : goal.new-requires-clause-spans
new-requires-clause-spans c = (c.requires.spans.floor, c.requires.spans.are)

pub begin-requires : goal.begin-requires
begin-requires c =
    let first = c.push_first.new.leads.items in
    let leads = c.push_series.new.leads.items in
    let sources = c.in_ok-push_series.ensures.sources in
    let behind = flat_map-map part_sources (λ l. l.feed) leads ∙ (sources.behind
    ∙ ap (λ xs. xs ++ map Of sources.more) (sym (flat_map-map part_sources (λ l. l.feed) first))) in
    let sorted = parts-sorted c.in_ok-singles.singles (map (λ l. l.feed) first) (map (λ l. l.feed) leads) sources.more c.in_ok-push_first.ensures.first
    behind sources.rises in
    let long : c.len-sorted_from.result ≡ length first = search rules in
    λ k. (
      (refl, tt),
      (
        c.in_ok-push_series.ensures.fresh c.in_ok-push_first.ensures.fresh,
        subst (AreSortedFrom c.len-sorted_from.result) (map-map part_coming (λ l. l.feed) leads)
            (subst (λ n. AreSortedFrom n (map part_coming (map (λ l. l.feed) leads))) (length-map first (λ l. l.feed) ∙ sym long) sorted),
      ),
    )

pub invariant_of-self : goal.invariant_of-self
invariant_of-self c =
    let sources = rw (← flat_map-map part_sources (λ l. l.feed) c.push_first.new.leads.items) at c.in_ok-push_series.ensures.sources in
    record {
      apart = by-result c.begin.result c.begin.ensures.sources c.begin.ensures.err
          (λ now. subst AreApart (sym now) (sources-behind c.requires.chosen c.in_ok-singles.singles c.in_ok-push_first.ensures.first sources).apart)
          (λ same. subst (λ m. AreApart (merge_all part_sources m)) (sym same) c.args.self.now.apart);
    }

pub returns : goal.returns
returns c =
    let files = map said_by c.args.files.now in
    let display = display_clock c.args.display.now in
    let after = option_map (λ key. key_rank key.now) c.args.after in
    let first = c.push_first.new.leads.items in
    let sources = rw (← flat_map-map part_sources (λ l. l.feed) first) at c.in_ok-push_series.ensures.sources in
    let lists = rw (← map-map part_coming (λ l. l.feed) first) at c.in_ok-push_series.ensures.lists in
    let leads = c.push_series.new.leads.items in
    let are = sources-behind c.requires.chosen c.in_ok-singles.singles c.in_ok-push_first.ensures.first sources in
    let fresh = c.in_ok-push_series.ensures.fresh c.in_ok-push_first.ensures.fresh in
    let single = part-since (λ l. l.feed) first (parts-since c.in_ok-singles.singles (map (λ l. l.feed) first) c.in_ok-push_first.ensures.first) in
    record {
      sources = rw c.in_ok-begin.ensures.sources are;
      since = λ none. rw (c.in_ok-begin.ensures.sources, c.in_ok-begin.ensures.coming)
          (merged-since (λ l. l.feed) (λ l. l.head) leads are.apart fresh (c.in_ok-push_series.ensures.since none single));
      listing =
          subst (λ (xs : List Entry). IsListing entry_cmp (IsToCome files display c.args.window after) xs) (sym c.in_ok-begin.ensures.coming)
          (pushed-listing files display c.args.window after c.in_ok-singles.singles c.in_ok-push_first.ensures.first c.requires.chosen c.in_ok-singles.ensures
          lists);
      marks = c.push_series.ensures.marks;
      kept = c.push_series.ensures.kept;
      err = tt;
    }
