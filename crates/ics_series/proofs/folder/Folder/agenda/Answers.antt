use Rattle.ics_series.proofs.folder.Folder.agenda.Goals as goal

pub returns : goal.returns
returns c = record {
  listing = rw (← c.self.view_is, ← c.deref.ensures.value) c.new.ensures.listing;
  behind = rw (← c.self.view_is, ← c.deref.ensures.value) c.new.ensures.behind;
  sources = rw (← c.self.view_is, ← c.deref.ensures.value) c.new.ensures.sources;
  since = c.new.ensures.since;
  keys = rw (← c.self.view_is, ← c.deref.ensures.value) c.new.ensures.keys;
}
