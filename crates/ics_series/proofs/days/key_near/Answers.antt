use Rattle.std.proofs.Common.{◌≡◌, ◌≤ℤ◌, ◌-ℤ◌, ◌⊎◌, ◌||◌, inl, inr, ⊎_elim, Bool, pos, Some, None, arith, refl, true, false, rules, if◌then◌else◌}
use Rattle.std.proofs.Common.{sym, ◌∙◌, to_z, of_z, w32}
use Rattle.std.proofs.lemmas.Int.{ints}
use Rattle.ics_zone.proofs.Cases.{int_lt_true}
use Rattle.ics_starts.specs.Clocks.{display_clock}
use Rattle.ics_days.specs.ShownDays.{date_at}
use Rattle.ics_series.specs.Inner.Spans.{floor_of, IsStartedBy}
use Rattle.ics_listing.specs.declared.window.Window.{Window}
use Rattle.ics_listing.specs.Entry.{Entry}
use Rattle.ics_days.proofs.NearDayLemmas.{above-floor, begins-later, from-floor}
use Rattle.ics_series.proofs.days.key_near.Goals as goal

-- one of two holds
either : (a b : Bool) → (a || b) ≡ true → (a ≡ true) ⊎ (b ≡ true)
either true b e = inl refl
either false b e = inr e

neither : (a b : Bool) → (a || b) ≡ false → a ≡ false
neither true b e = e
neither false b e = refl

-- an instant is the floor of a window, if that has one
at-floor : (w : Window) (o : Entry) → (w.from -ℤ pos 1) ≤ℤ o.start → IsStartedBy (floor_of w) o
at-floor w o l = by w.notstarted
  where
    by : (b : Bool) → IsStartedBy (if b then Some (w.from -ℤ pos 1) else None) o
    by true = l
    by false = tt

pub returns-then-window-early : goal.returns-then-window-early
returns-then-window-early c = record {
  shown = λ o met on.
      above-floor c.args.window.now c.args.floor.now o c.requires.floor (⊎_elim
      (λ started. met.started started)
      (λ early.
      let fits : to_z w32 (of_z w32 c.args.day) ≡ c.args.day = search rules in
      let before = int_lt_true c.args.day (date_at (display_clock c.args.display.now) c.args.window.now.from)
      (sym (rw fits at c.is_early-early.ensures) ∙ early) in
      let later = begins-later (display_clock c.args.display.now) c.args.window.now o on before in
      omega (arith, ints, later))
      (either c.args.window.now.notstarted c.is_early-early.result c.if-window-early.true));
  floor = λ o after. at-floor c.args.window.now o (from-floor c.args.window.now c.args.floor.now o c.requires.floor after);
}

pub returns-else-window-early : goal.returns-else-window-early
returns-else-window-early c = record {
  shown = λ o met on. refl;
  floor = λ o after. rw (neither c.args.window.now.notstarted _ c.if-window-early.false) tt;
}
