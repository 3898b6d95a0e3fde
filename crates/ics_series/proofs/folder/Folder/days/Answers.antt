use Rattle.ics_series.proofs.folder.Folder.days.Goals as goal

pub returns : goal.returns
returns c = record {
  listing = rw (← c.self.view_is, ← c.deref.ensures.value) c.new.ensures.listing;
  bounds = rw (← c.self.view_is) c.new.ensures.bounds;
  masters = c.new.ensures.masters;
  keys = rw (← c.self.view_is, ← c.deref.ensures.value) c.new.ensures.keys;
}
