-- The table of RFC 5545, 3.3.10: which parts of a rule expand the set of its instances, and which limit it.
use Rattle.std.specs.Prelude.{ℕ, List, [], ◌∷◌, slice_index_or}
use Rattle.ics_fields.specs.declared.frequency.Frequency.{Frequency}
use Rattle.ics_fields.specs.declared.frequency.Frequency.TheVariants.{Secondly, Minutely, Hourly, Daily, Weekly, Monthly, Yearly}

-- the parts of a rule, in the order in which they are applied
pub data Part : Type 0 where
  ByMonth : Part
  ByWeekNo : Part
  ByYearDay : Part
  ByMonthDay : Part
  ByDay : Part
  ByHour : Part
  ByMinute : Part
  BySecond : Part
  BySetPos : Part

-- what a cell of the table says. Nothing is the table's N/A
pub data Cell : Type 0 where
  Nothing : Cell
  Limit : Cell
  Expand : Cell
  Note1 : Cell
  Note2 : Cell

-- the place of a frequency among the table's columns
abbrev pub column : Frequency → ℕ
column Secondly = 0
column Minutely = 1
column Hourly = 2
column Daily = 3
column Weekly = 4
column Monthly = 5
column Yearly = 6

-- The table, a row for each part, with its cells under SECONDLY, MINUTELY, HOURLY, DAILY, WEEKLY, MONTHLY and YEARLY.
abbrev pub row : Part → List Cell
row ByMonth = Limit ∷ Limit ∷ Limit ∷ Limit ∷ Limit ∷ Limit ∷ Expand ∷ []
row ByWeekNo = Nothing ∷ Nothing ∷ Nothing ∷ Nothing ∷ Nothing ∷ Nothing ∷ Expand ∷ []
row ByYearDay = Limit ∷ Limit ∷ Limit ∷ Nothing ∷ Nothing ∷ Nothing ∷ Expand ∷ []
row ByMonthDay = Limit ∷ Limit ∷ Limit ∷ Limit ∷ Nothing ∷ Expand ∷ Expand ∷ []
row ByDay = Limit ∷ Limit ∷ Limit ∷ Limit ∷ Expand ∷ Note1 ∷ Note2 ∷ []
row ByHour = Limit ∷ Limit ∷ Limit ∷ Expand ∷ Expand ∷ Expand ∷ Expand ∷ []
row ByMinute = Limit ∷ Limit ∷ Expand ∷ Expand ∷ Expand ∷ Expand ∷ Expand ∷ []
row BySecond = Limit ∷ Expand ∷ Expand ∷ Expand ∷ Expand ∷ Expand ∷ Expand ∷ []
row BySetPos = Limit ∷ Limit ∷ Limit ∷ Limit ∷ Limit ∷ Limit ∷ Limit ∷ []

abbrev pub cell : Part → Frequency → Cell
cell part frequency = slice_index_or (row part) (column frequency) Nothing
