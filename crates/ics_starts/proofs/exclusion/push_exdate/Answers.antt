use Rattle.std.proofs.Common.{◌≡◌, ◌||◌, ℤ, w32, to_z, of_z, sym, ◌∙◌, ap, int_eq, arith, rules, SFits}
use Rattle.std.proofs.lemmas.Int.{ints}
use Rattle.ics_event.specs.Event.{Time}
use Rattle.ics_values.specs.declared.stamp.Stamp.{Stamp}
use Rattle.ics_starts.specs.Clocks.{clock_of, instant}
use Rattle.ics_starts.specs.Exclusions.{excludes_by, takes_out}
use Rattle.ics_starts.specs.FileZones.{clocks_in}
use Rattle.ics_starts.proofs.ExclusionLemmas.{day-only, day-same, excludes-day, excludes-instant, pushed-instant, pushed-only}
use Rattle.ics_listing.proofs.Cases.{moment-back}
use Rattle.ics_starts.proofs.exclusion.push_exdate.Goals as goal

pub returns-in_ok-push_instant-in-Date-default : goal.returns-in_ok-push_instant-in-Date-default
returns-in_ok-push_instant-in-Date-default c =
    let clocks = clocks_in c.args.zones in
    let before = λ (t : ℤ). takes_out (clock_of clocks c.args.first) c.args.instants.now.items c.args.days.now.items t in
    let pushed = rw (moment-back c.args.from c.ranges.from.sfits) at c.in_ok-push_instant-in-Date-default.ensures.instants in
    let same = λ (t : ℤ). ap (λ (x : Time). before t || int_eq (instant clocks x) t) c.date_of.ensures
    ∙ ap (λ (s : Stamp). before t || excludes_by clocks c.args.first s c.args.exdate t) (sym c.in-Date-default.is-0) in
    record {
      known = c.push_instant.ensures.known;
      only = λ t out. sym (same t) ∙ pushed-only c.args.zones c.args.window.now c.args.from c.args.running.now (clock_of clocks c.args.first)
          c.args.instants.now.items c.args.days.now.items c.date_of.result t pushed out;
      same = λ t known early. pushed-instant c.args.zones c.args.window.now c.args.from c.args.running.now (clock_of clocks c.args.first)
          c.args.instants.now.items c.args.days.now.items c.date_of.result known early pushed ∙ same t;
    }

pub returns-in_ok-push_instant-in_default : goal.returns-in_ok-push_instant-in_default
returns-in_ok-push_instant-in_default c =
    let clocks = clocks_in c.args.zones in
    let pushed = rw (moment-back c.args.from c.ranges.from.sfits) at c.in_ok-push_instant-in_default.ensures.instants in
    let same = λ (t : ℤ). ap (λ b. takes_out (clock_of clocks c.args.first) c.args.instants.now.items c.args.days.now.items t || b)
    (sym (excludes-instant clocks c.args.first c.args.exdate c.args.first.stamp t c.in_default.not-Date-0 c.in_default.not-Date-1)) in
    record {
      known = c.push_instant-in_default.ensures.known;
      only = λ t out. sym (same t) ∙ pushed-only c.args.zones c.args.window.now c.args.from c.args.running.now (clock_of clocks c.args.first)
          c.args.instants.now.items c.args.days.now.items c.args.exdate t pushed out;
      same = λ t known early. pushed-instant c.args.zones c.args.window.now c.args.from c.args.running.now (clock_of clocks c.args.first)
          c.args.instants.now.items c.args.days.now.items c.args.exdate known early pushed ∙ same t;
    }

pub returns-in_ok-push_day-in_default-Date : goal.returns-in_ok-push_day-in_default-Date
returns-in_ok-push_day-in_default-Date c =
    let clocks = clocks_in c.args.zones in
    let day = c.in_default-Date.day in
    let fits : SFits w32 c.in_default-Date.day = search rules in
    let back : to_z w32 (of_z w32 c.in_default-Date.day) ≡ c.in_default-Date.day = omega (arith, ints) in
    let pushed = rw (back, moment-back c.args.from c.ranges.from.sfits) at c.in_ok-push_day-in_default-Date.ensures in
    let same = λ (t : ℤ). excludes-day clocks c.args.first c.args.exdate c.args.first.stamp day t c.in_default-Date.not-Date-0 c.in_default-Date.is-1 in
    record {
      known = c.requires.known;
      only = day-only c.args.zones c.args.first c.args.window.now c.args.from c.args.running.now c.args.instants.now.items c.args.days.now.items
          c.push_day.new.days.items day _ same pushed;
      same = day-same c.args.zones c.args.first c.args.window.now c.args.from c.args.running.now c.args.instants.now.items c.args.days.now.items
          c.push_day.new.days.items day _ same pushed;
    }
