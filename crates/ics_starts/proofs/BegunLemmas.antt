-- The starts of a series, when it begins.
use Rattle.std.proofs.Common.{◌≡◌, ℕ, zero, suc, ◌+◌, ◌-◌, ◌<◌, ◌≤◌, ℤ, List, true, Option, Some, None, option_map, ◌⊎◌, inl, inr, ⊎_elim, refl, sym, ◌∙◌}
use Rattle.std.proofs.Common.{ap, subst, arith, ◌≤ℤ◌, int_lt, slice_get, MatchOption}
use Rattle.std.proofs.lemmas.Int.{int_max_is, int_min_is, ints}
use Rattle.std.proofs.lemmas.Bool.{and_from, cases_lt}
use Rattle.ics_fields.specs.RuleParts.{RuleParts}
use Rattle.ics_fields.specs.declared.local.Local.{Local}
use Rattle.ics_period.specs.PeriodNumbers.{rules_end}
use Rattle.ics_fields.specs.Locals.{number}
use Rattle.ics_rule.specs.Kept.{is_kept}
use Rattle.ics_period.specs.Recurrence.{Recurrence}
use Rattle.ics_event.specs.Event.{IsEvent, IsTime}
use Rattle.ics_event.specs.declared.event.Event.{Event}
use Rattle.ics_event.specs.Event.{Rdate}
use Rattle.ics_zone.proofs.Cases.{true_int_lt}
use Rattle.ics_starts.specs.declared.rule_starts.RuleStarts.{RuleStarts}
use Rattle.ics_listing.specs.declared.start.StartSource.{StartSource}
use Rattle.ics_listing.specs.declared.start.StartSource.TheVariants.{Kept, Listed}
use Rattle.ics_listing.specs.declared.start.Start.{Start}
use Rattle.ics_listing.specs.declared.window.Window.{Window}
use Rattle.ics_starts.specs.declared.zones.FileZones.{FileZones}
use Rattle.ics_listing.specs.FileClocks.{Clocks}
use Rattle.ics_starts.specs.Clocks.{instant}
use Rattle.ics_listing.specs.Entry.{Entry, entry_cmp}
use Rattle.ics_starts.specs.Found.{counts_from, start_at, start_by, AreStartsSince, IsSought, IsStart, IsStartIn}
use Rattle.ics_listing.specs.StartOrder.{moment_cmp, AreFirsts, HasStart}
use Rattle.ics_listing.specs.Listing.{IsIn, IsListing}
use Rattle.ics_starts.specs.Meeting.{entry_from}
use Rattle.ics_starts.specs.MeetsWindow.{Meets}
use Rattle.ics_listing.specs.Merged.{union}
use Rattle.ics_listing.specs.Inner.MergedLaws.{rises-union}
use Rattle.ics_listing.specs.Rising.{Rises}
use Rattle.ics_starts.specs.RuleFeed.{starts_left}
use Rattle.ics_starts.specs.RuleStarts.{found, found_in, gives, lets_until, local_numbered, moment_numbered}
use Rattle.ics_starts.specs.SeriesStarts.{listed_apart, listed_of, rule_left, HasRuled, IsRuleFrom, IsSeriesMet}
use Rattle.ics_listing.specs.StartTimes.{local_of, time_at, time_of}
use Rattle.ics_starts.specs.Starts.{recurrence_by, GivesStart, IsRuleStart}
use Rattle.ics_starts.specs.FileZones.{clocks_in, IsOwnEvent}
use Rattle.ics_listing.proofs.FirstLemmas.{moment_total}
use Rattle.ics_listing.proofs.StartOrderLemmas.{calendar-day, own-day, number-seconds, written-at}
use Rattle.ics_starts.proofs.StartSourceLemmas.{gives-below, gives-kept, gives-value, kept-calendar, kept-ruled, number-numbered, numbered-number, ruled-kept}
use Rattle.ics_starts.proofs.InstantLemmas.{instant-near}
use Rattle.ics_starts.proofs.SeriesLemmas.{has-union, put-has, union-has, in-moment, rises-rule}
use Rattle.ics_starts.proofs.SoughtLemmas.{listed-in, late-event, listed-there, none-else, sought-counts, sought-early, sought-from}
use Rattle.ics_starts.proofs.EntryLemmas.{same-entry}
use Rattle.ics_starts.proofs.RuleDayLemmas.{found-is, given-parts, in-rules, put-both, seconds-numbered}
use Rattle.ics_starts.proofs.RawLemmas.{kept-first}
use Rattle.ics_listing.proofs.UnionLemmas.{itself-put, union-in}
use Rattle.ics_listing.proofs.Cases.{here-or-later}

-- The starts of a series: all that are sought from an instant on are among them.
-- the starts of a rule, if there is one, from what the starts that are known from the first and the instant are
abbrev pub IsRuled : Clocks → Event → Window → ℤ → List Start → Option RuleStarts → Type 0
IsRuled clocks event w since listed o = MatchOption o (event.rule ≡ None) (λ s. IsRuleFrom clocks event w since listed (starts_left s))

module _ (zones : FileZones) (w : Window) (event : Event) where
  abbrev clocks : Clocks
  clocks = clocks_in zones

  -- What is known from the first.
  start-listed : (since : ℤ) (s : Start) → IsIn s (listed_of clocks w event since) → IsStart clocks event s
  start-listed since s m =
      let k = listed-in clocks w since (counts_from clocks w event since) event 0 event.rdates s m in
      rw k.is (record { gives = (k.rdate, subst (λ i. slice_get event.rdates i ≡ Some k.rdate) (omega arith) k.stands, refl); moment = refl })

  pub start-apart : (since : ℤ) (o : Option RuleParts) (s : Start) → IsIn s (listed_apart clocks w event since o) → IsStart clocks event s
  start-apart since None s (inl e) = rw e (record { gives = (inl refl, refl); moment = refl })
  start-apart since None s (inr m) = start-listed since s m
  start-apart since (Some parts) s m = start-listed since s m

  -- What the rule gives.
  start-ruled : {since : ℤ} {listed starts : List Start} (s : Start) → IsTime event.start → IsRuleFrom clocks event w since listed starts
      → IsIn s starts → IsStart clocks event s
  start-ruled s time r m =
      let f = found-is zones event r.rule w (number r.from) s (subst (IsIn s) r.gives m) in
      let below = in-rules zones event r.rule w f.by f.given in
      let same = number-numbered f.by in
      let parts = given-parts zones event r.rule w f.by f.given in
      rw f.is (record {
        gives = (
          kept-ruled clocks event r.rule r.has (local_numbered f.by) time (omega (arith, ints), omega (arith, ints, below))
              (ap (is_kept r.rule) same ∙ parts.0) (ap (λ n. lets_until r.rule n (moment_numbered clocks event n)) same ∙ parts.1),
          refl,
        );
        moment = refl;
      })

  -- their times are those of the file
  pub start-in : IsOwnEvent zones event → (s : Start) → IsStart clocks event s → IsStartIn zones s
  start-in own s k = record {
    value = gives-value clocks event s.source s.given own.is_event.start own.is_event.rdates k.gives;
    below = gives-below clocks event s.source s.given own.below k.gives;
    moment = k.moment;
  }

  -- The list has a start for each local that gives one.
  module _ (rule : Recurrence) where
    abbrev HasLocal : List Start → ℕ → Type 0
    HasLocal starts k = HasStart starts (Kept (local_numbered k)) (moment_numbered clocks event k)

    found_in-has : (from n k : ℕ) → from ≤ k → k < from + n → gives clocks event rule w k ≡ true → HasLocal (found_in clocks event rule w from n) k
    found_in-has from zero k l u g = absurd (omega (arith, l, u))
    found_in-has from (suc n) k l u g =
        let s = start_at clocks event (local_numbered from) in
        let rest = found_in clocks event rule w (from + 1) n in
        ⊎_elim
        (λ (same : from ≡ k). rw (← same, ap (gives clocks event rule w) same ∙ g)
        (record { start = s; stands = itself-put moment_cmp moment_total s rest; same = refl; earlier = omega (arith, ints) }))
        (λ less.
        let later = found_in-has (from + 1) n k (omega (arith, less)) (omega (arith, u)) g in
        put-both (gives clocks event rule w from) s rest (λ xs. HasLocal xs k)
        (λ e. put-has s rest (Kept (local_numbered k)) (moment_numbered clocks event k)
        (omega (arith, ints, seconds-numbered from, seconds-numbered k, less)) later)
        (λ e. later))
        (here-or-later from k l)

    found-has : (from k : ℕ) → from ≤ k → k < rules_end → gives clocks event rule w k ≡ true → HasLocal (found clocks event rule w from) k
    unfolding found
    found-has from k l u g = found_in-has from (rules_end - from) k l (omega (arith, l, u)) g

  module _ (sound : IsEvent event) (since : ℤ) where
    abbrev by_rdates : List Start
    by_rdates = listed_of clocks w event since

    -- all that is sought from the instant on has a start among these
    abbrev HasSought : List Start → Type 0
    HasSought starts =
        (source : StartSource) (given : Rdate) → GivesStart clocks event source given → IsSought clocks event w (instant clocks (time_of given)) →
        since ≤ℤ instant clocks (time_of given) → HasStart starts source (instant clocks (time_of given))

    -- The rule gives a start for each that is sought.
    module _ (starts : List Start) (r : IsRuleFrom clocks event w since by_rdates starts) where
      abbrev moment : Local → ℤ
      moment local = instant clocks (time_at event.start local)

      ruled : (local : Local) → (local ≡ local_of event.start.stamp) ⊎ IsRuleStart clocks event local → IsSought clocks event w (moment local) →
          since ≤ℤ moment local → HasStart starts (Kept local) (moment local)
      ruled local own s late =
          let early = sought-early zones w event (moment local) s in
          let day = kept-calendar clocks event local sound.start own in
          let near = instant-near zones (time_at event.start local) in
          let at = written-at event.start.stamp local in
          let first = kept-first clocks event sound.start local own in
          let back = sought-from zones w event since r.bounds r.bounded (moment local) late s in
          let late-least = (late-event zones w event r.bounds r.bounded).0 in
          let begun = local_of event.start.stamp in
          let on : number (local_of event.start.stamp) ≤ number local =
          omega (arith, ints, first, number-seconds begun (calendar-day begun.day (own-day event.start sound.start)), number-seconds local day) in
          let same : moment_numbered clocks event (number local) ≡ moment local = ap moment (numbered-number local day) in
          let from : number r.from ≤ number local = elim (cases_lt (number local) (number r.from)) [
            | inl before ↦ absurd (
                let low = r.low (number local) on before in
                omega (arith, ints, int_max_is, int_min_is, low, same, back, late-least, late)
                )
            | inr past ↦ past
          ] in
          let below : number local < rules_end = omega (arith, ints, early, near.0, at.1, number-seconds local day, w.not_late) in
          let parts = ruled-kept clocks event r.rule r.has local own in
          let there : gives clocks event r.rule w (number local) ≡ true =
          gives-kept clocks event r.rule w local day parts.0
          ∙ and_from (lets_until r.rule (number local) (moment local)) (int_lt (moment local) w.to) parts.1 (true_int_lt (moment local) w.to early) in
          rw r.gives (rw (numbered-number local day) at (found-has r.rule (number r.from) (number local) from below there))

      with-ruled : (listed : List Start) → Rises moment_cmp starts → AreFirsts by_rdates listed → HasSought (union moment_cmp starts listed)
      with-ruled listed rises firsts (Kept local) given g s late =
          rw g.1 (has-union starts listed (Kept local) (moment local) rises (ruled local g.0 (rw g.1 at s) (rw g.1 at late)))
      with-ruled listed rises firsts (Listed place) given g s late =
          union-has starts listed (Listed place) (instant clocks (time_of given))
          (λ x m. let f = found-is zones event r.rule w (number r.from) x (subst (IsIn x) r.gives m) in rw f.is tt)
          (firsts.all (start_by clocks (Listed place) given)
          (⊎_elim
          (λ e. let f : Listed place ≡ Kept (local_of event.start.stamp) = ap (λ (x : Start). x.source) e in absurd cc)
          (λ m. m)
          (listed-there zones w event since place given g (sought-early zones w event (instant clocks (time_of given)) s) late
          (sought-counts zones w event since (instant clocks (time_of given)) late s (time_of given) refl))))

    -- Both kinds together.
    abbrev apart : List Start
    apart = listed_apart clocks w event since event.rule

    -- where the rule gives starts, the ones that are known from the first are those by RDATEs
    apart-is : {listed starts : List Start} → IsRuleFrom clocks event w since listed starts → apart ≡ by_rdates
    apart-is r = by event.rule refl
      where
        by : (parts : Option RuleParts) → event.rule ≡ parts → listed_apart clocks w event since parts ≡ by_rdates
        by None e = let f : None ≡ Some r.rule = ap (option_map (recurrence_by event.start.stamp)) (sym e) ∙ r.has in absurd cc
        by (Some parts) e = refl

    by-rdates : {starts : List Start} → IsRuleFrom clocks event w since apart starts → IsRuleFrom clocks event w since by_rdates starts
    by-rdates {starts = starts} r = subst (λ xs. IsRuleFrom clocks event w since xs starts) (apart-is r) r

    module _ (listed : List Start) (firsts : AreFirsts apart listed) where
      are-starts : (o : Option RuleStarts) → IsRuled clocks event w since apart o → (s : Start) → IsIn s (union moment_cmp (rule_left o) listed) →
          IsStart clocks event s
      are-starts None r s m = start-apart since event.rule s (firsts.are s m)
      are-starts (Some starts) r s m =
          ⊎_elim (start-ruled s sound.start r)
          (λ n. start-apart since event.rule s (firsts.are s n.1))
          (union-in moment_cmp moment_total s (starts_left starts) listed firsts.rises m)

      all-by : (o : Option RuleStarts) → IsRuled clocks event w since apart o → HasSought (union moment_cmp (rule_left o) listed)
      all-by None r = λ source given g s late. firsts.all (start_by clocks source given) (rw r (none-else zones w event since r source given g s late))
      all-by (Some starts) r =
          with-ruled (starts_left starts) (by-rdates r) listed (rises-rule (Some starts)) (subst (λ xs. AreFirsts xs listed) (apart-is r) firsts)

      pub starts-since : (o : Option RuleStarts) → IsRuled clocks event w since apart o →
          AreStartsSince clocks event w since (union moment_cmp (rule_left o) listed)
      starts-since o r = record {
        rises = rises-union moment_cmp moment_total (rule_left o) listed firsts.rises;
        are = are-starts o r;
        all = all-by o r;
      }

    -- Where an occurrence begins at the instant of a local that DTSTART has or the rule keeps, the rule has a start there.
    pub has-ruled : (replaced : List ℤ) (o : Option RuleStarts) (coming : List Entry) → IsRuled clocks event w since apart o
        → IsListing entry_cmp (IsSeriesMet clocks event w since replaced) coming → HasRuled clocks event o coming
    has-ruled replaced None coming r l = tt
    has-ruled replaced (Some starts) coming r l = λ o m local k.
        let met = (l.exact o).0 m in
        let of = met.0.0.lasts in
        let is : o ≡ entry_from clocks event of.given =
        same-entry o (entry_from clocks event of.given) of.starts of.ends (met.0.0.recurrence ∙ of.starts) met.0.0.event in
        let sought : IsSought clocks event w o.start =
        record { source = of.source; given = of.given; gives = of.gives; starts = sym of.starts; meets = subst (Meets w) is met.0.1 } in
        let has = ruled (starts_left starts) (by-rdates r) local k.0 (rw (← k.1) at sought) (rw (← k.1) at met.1.0) in
        in-moment has.start o.start (starts_left starts) (has.same ∙ k.1) has.stands
