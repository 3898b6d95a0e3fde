-- What meets a window, as it is tested.
use Rattle.std.proofs.Common.{◌≡◌, ℤ, inl, inr, ⊎_elim, true, false, arith, ◌<ℤ◌, int_le}
use Rattle.std.proofs.lemmas.Int.{ints}
use Rattle.ics_zone.proofs.Cases.{less_or_not_z}
use Rattle.ics_listing.specs.declared.window.Window.{Window}
use Rattle.ics_listing.specs.Entry.{Entry}
use Rattle.ics_starts.specs.MeetsWindow.{Meets}
use Rattle.ics_listing.specs.WindowMeeting.{is_met}

-- Whether an occurrence meets a window, by the test.
pub less-le : (a b : ℤ) → b <ℤ a → int_le a b ≡ false
less-le a b e = grind (arith, ints)

pub is_met-meets : (w : Window) (o : Entry) → is_met w o ≡ true → Meets w o
is_met-meets w o e = record {
  begun = grind (arith, ints);
  lasting = ⊎_elim inl (λ l. inr (grind (arith, ints), grind (arith, ints))) (less_or_not_z w.from o.finish);
  started = λ n. grind (arith, ints);
}

pub meets-is_met : (w : Window) (o : Entry) → Meets w o → is_met w o ≡ true
meets-is_met w o m = grind (arith, ints, m.begun, m.lasting, m.started)
