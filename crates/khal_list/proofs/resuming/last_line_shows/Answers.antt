use Rattle.khal_list.proofs.TokenPages.{last-line-shows, last-day-line-shows}
use Rattle.khal_list.proofs.resuming.last_line_shows.Goals as goal

pub returns-clause-once : goal.returns-clause-once
returns-clause-once c = last-line-shows

pub returns-clause-days : goal.returns-clause-days
returns-clause-days c = last-day-line-shows
