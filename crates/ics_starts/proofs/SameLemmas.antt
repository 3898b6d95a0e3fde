-- A series that moves on stays that of the same event, and gives the same with the same starts.
use Rattle.std.proofs.Common.{◌≡◌, ◌∷◌, ◌∙◌, ℤ, List, Option, Some, None, IfSome, refl, sym, subst, ap}
use Rattle.std.specs.List.{cons_option}
use Rattle.ics_starts.specs.declared.rule_starts.RuleStarts.{RuleStarts}
use Rattle.ics_starts.specs.declared.series.Series.{Series}
use Rattle.ics_listing.specs.declared.start.Start.{Start}
use Rattle.ics_listing.specs.Entry.{Entry}
use Rattle.ics_starts.specs.FileZones.{clocks_in}
use Rattle.ics_starts.specs.Found.{IsFinish}
use Rattle.ics_starts.specs.declared.zones.FileZones.{FileZones}
use Rattle.ics_event.specs.declared.event.Event.{Event}
use Rattle.ics_starts.specs.SeriesFeed.{series_left, series_of, series_sources, source_of, IsSameSeries}
use Rattle.ics_starts.specs.SeriesStarts.{given_of, left, wanted_by, HasSameRule}

pub same-rule : (a b c : Option RuleStarts) → HasSameRule a b → HasSameRule b c → HasSameRule a c
same-rule None None None p q = tt
same-rule None None (Some c) p q = absurd q
same-rule None (Some b) c p q = absurd p
same-rule (Some a) None c p q = absurd p
same-rule (Some a) (Some b) None p q = absurd q
same-rule (Some a) (Some b) (Some c) p q = record {
  zones = q.zones ∙ p.zones;
  event = q.event ∙ p.event;
  window = q.window ∙ p.window;
  rule = q.rule ∙ p.rule;
  from = q.from ∙ p.from;
  end = q.end ∙ p.end;
}

pub rule-itself : (o : Option RuleStarts) → HasSameRule o o
rule-itself None = tt
rule-itself (Some a) = record { zones = refl; event = refl; window = refl; rule = refl; from = refl; end = refl }

pub itself-same : (a : Series) → IsSameSeries a a
itself-same a = record { zones = refl; event = refl; window = refl; since = refl; replaced = refl; rule = rule-itself a.rule_starts }

pub both-same : {a b c : Series} → IsSameSeries a b → IsSameSeries b c → IsSameSeries a c
both-same {a = a} {b = b} {c = c} p q = record {
  zones = q.zones ∙ p.zones;
  event = q.event ∙ p.event;
  window = q.window ∙ p.window;
  since = q.since ∙ p.since;
  replaced = q.replaced ∙ p.replaced;
  rule = same-rule a.rule_starts b.rule_starts c.rule_starts p.rule q.rule;
}

module _ (old new : Series) (same : IsSameSeries old new) where
  same-given : (starts : List Start) → series_of new starts ≡ series_of old starts
  same-given starts =
      λ i. given_of (clocks_in (same.zones i)) (same.window i) ((same.event i).now) (same.since i) (same.replaced i) starts

  pub same-coming : series_left new ≡ series_left old → series_of new (series_left new) ≡ series_of old (series_left old)
  same-coming is = same-given (series_left new) ∙ ap (series_of old) is

  pub same-left : new.rule_starts ≡ old.rule_starts → new.listed ≡ old.listed → series_left new ≡ series_left old
  same-left rule listed = λ i. left (rule i) (listed i)

  -- the end that is told of a start
  pub told-end : (start : Start) (end : Option ℤ) → IfSome end (IsFinish (clocks_in old.zones) old.event.now start)
      → IfSome end (IsFinish (clocks_in new.zones) new.event.now start)
  told-end start end told =
      let event : new.event.now ≡ old.event.now = λ i. (same.event i).now in
      subst (λ (z : FileZones). IfSome end (IsFinish (clocks_in z) new.event.now start)) (sym same.zones)
      (subst (λ (e : Event). IfSome end (IsFinish (clocks_in old.zones) e start)) (sym event) told)

  pub same-sources : series_sources new ≡ series_sources old
  same-sources = λ i. source_of (clocks_in (same.zones i)) ((same.event i).now) (same.window i) (same.since i) (same.replaced i)

  -- a start that gives nothing goes
  pub dropped : (start : Start) → wanted_by (clocks_in old.zones) old.window old.event.now old.since old.replaced start ≡ None
      → series_left old ≡ start ∷ series_left new → series_of new (series_left new) ≡ series_of old (series_left old)
  dropped start none first =
      same-given (series_left new)
      ∙ sym (ap (series_of old) first ∙ ap (λ (o : Option Entry). cons_option o (series_of old (series_left new))) none)
