-- From when to when occurrences of an event are that last.
use Rattle.std.specs.Prelude.{ℕ, ℤ, Bool, List, map, drop, int_le, int_lt, ◌&&◌}
use Rattle.ics_continued.specs.declared.lasting.Lasting.{Lasting}
use Rattle.ics_event.specs.declared.event.Event.{Event}
use Rattle.ics_listing.specs.Entry.{Entry}
use Rattle.ics_listing.specs.WindowMeeting.{is_met}
use Rattle.ics_listing.specs.declared.window.Window.{Window}

-- the occurrence of an event that is then, identified by its start
abbrev pub lasting_entry : Event → Lasting → Entry
lasting_entry event l = record { start = l.start; finish = l.finish; recurrence = l.start; event = event }

-- those of some
abbrev pub lasting_entries : Event → List Lasting → List Entry
lasting_entries event list = map (lasting_entry event) list

-- those of some from a place on
abbrev pub known_left : Event → ℕ → List Lasting → List Entry
known_left event next known = lasting_entries event (drop next known)

-- it meets a window and begins at an instant or later
abbrev pub is_asked : Event → Window → ℤ → Lasting → Bool
is_asked event w since l = int_le since l.start && is_met w (lasting_entry event l)

-- and before another
abbrev pub is_carried : Event → Window → ℤ → ℤ → Lasting → Bool
is_carried event w since begin l = int_lt l.start begin && is_asked event w since l
