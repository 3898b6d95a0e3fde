use Rattle.ics_components.proofs.PartFaults.{least-of-both, least-of-parts, stands-alone, stands-apart}
use Rattle.ics_calendar.proofs.laws.parts_stand_alone.Goals as goal

pub returns : goal.returns
returns c = record { parts = least-of-parts; both = least-of-both; alone = stands-alone; apart = stands-apart }
