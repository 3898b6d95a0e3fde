-- What jiff answers for a zone of its own is what the zone says.
use Rattle.std.proofs.Common.{◌≡◌, ℤ, pos, ◌-ℤ◌, ◌*ℤ◌, refl, sym, ap, subst, ◌∙◌, arith}
use Rattle.jiff.proofs.SpanFacts.{signed_arith}
use Rattle.jiff.specs.Words.{nanos_of_seconds, civil_nanos, picked_instant, ambiguous_at, compatible_offset}
use Rattle.jiff_core.specs.declared.civil.datetime.DateTime.{DateTime}
use Rattle.jiff_core.specs.declared.offset.Offset.{Offset}
use Rattle.jiff_tz.specs.Zone.{offset_at}
use Rattle.jiff_tz.specs.declared.timezone.TimeZone.{TimeZone}
use Rattle.jiff_tz.specs.declared.timezone.TimeZone.TheVariants.{UTC, Unknown, Fixed, Posix, Tzif}
use Rattle.ics_zone.specs.JiffZones.{plain_said, offset_of, IsCompatible, IsOffsetIn, IsMomentIn}
use Rattle.ics_zone.specs.ZoneSaid.{ZoneSaid, jiff_said, said_offset, said_moment}
use Rattle.ics_zone.specs.declared.jiff_zone.JiffZone.TheVariants as own
use Rattle.ics_zone.proofs.FileLemmas.{rule_offset_is, rule_reading_is, file_offset_is, file_reading_is}

pub plain_offset : (zone : TimeZone) (t : ℤ) → offset_of zone t ≡ said_offset (plain_said zone) t
unfolding offset_at said_offset
plain_offset UTC t = refl
plain_offset Unknown t = refl
plain_offset (Fixed offset) t = refl
plain_offset (Posix rule) t = sym (rule_offset_is rule (nanos_of_seconds t))
plain_offset (Tzif table) t = sym (file_offset_is table.now t)

-- the offset by which jiff reads a local
abbrev read_by : TimeZone → DateTime → ℤ
read_by zone dt = (compatible_offset (ambiguous_at zone dt)).seconds

plain_reading : (zone : TimeZone) (dt : DateTime) (local : ℤ) → civil_nanos dt ≡ nanos_of_seconds local
    → said_moment (plain_said zone) local ≡ local -ℤ read_by zone dt
unfolding ambiguous_at said_moment
plain_reading UTC dt local e = refl
plain_reading Unknown dt local e = refl
plain_reading (Fixed offset) dt local e = refl
plain_reading (Posix rule) dt local e = ap (λ n. local -ℤ n) (rule_reading_is rule.std_offset rule.dst dt local e)
plain_reading (Tzif table) dt local e = ap (λ n. local -ℤ n) (file_reading_is table.now dt local e)

-- the instant that jiff picks, in whole seconds
pub picked_seconds : (zone : TimeZone) (dt : DateTime) (local : ℤ) → civil_nanos dt ≡ nanos_of_seconds local
    → picked_instant zone dt ≡ said_moment (plain_said zone) local *ℤ pos 1_000_000_000
picked_seconds zone dt local e = rw (plain_reading zone dt local e, e) (omega (arith, signed_arith))

pub plain_moment : (zone : TimeZone) (local t : ℤ) → IsCompatible zone local t → t ≡ said_moment (plain_said zone) local
plain_moment zone local t h =
    let parts = picked_seconds zone h.shown local h.same in
    omega (arith, signed_arith, h.picked ∙ parts)

-- jiff picks one instant in all zones that say the same
compatible_same : (zone other : TimeZone) (local t : ℤ) → plain_said other ≡ plain_said zone → IsCompatible zone local t → IsCompatible other local t
compatible_same zone other local t same h = record {
  shown = h.shown;
  same = h.same;
  picked = h.picked ∙ picked_seconds zone h.shown local h.same
      ∙ ap (λ said. said_moment said local *ℤ pos 1_000_000_000) (sym same) ∙ sym (picked_seconds other h.shown local h.same);
}

-- what jiff answers for a zone is meant by what the zone says
offset_in : (zone : TimeZone) (t offset : ℤ) → offset ≡ offset_of zone t → IsOffsetIn (plain_said zone) t offset
offset_in UTC t offset is = (UTC, refl, is)
offset_in Unknown t offset is = (Unknown, refl, is)
offset_in (Fixed seconds) t offset is = (Fixed seconds, refl, is)
offset_in (Posix rule) t offset is = (Posix rule, refl, is)
offset_in (Tzif table) t offset is = (Tzif table, refl, is)

moment_in : (zone : TimeZone) (local t : ℤ) → IsCompatible zone local t → IsMomentIn (plain_said zone) local t
moment_in UTC local t is = (UTC, refl, is)
moment_in Unknown local t is = (Unknown, refl, is)
moment_in (Fixed seconds) local t is = (Fixed seconds, refl, is)
moment_in (Posix rule) local t is = (Posix rule, refl, is)
moment_in (Tzif table) local t is = (Tzif table, refl, is)

-- and the other way round, for each zone that says the same
moment_out : (zone : TimeZone) (local t : ℤ) → IsMomentIn (plain_said zone) local t → IsCompatible zone local t
moment_out UTC local t is = compatible_same is.0 UTC local t (sym is.1) is.2
moment_out Unknown local t is = compatible_same is.0 Unknown local t (sym is.1) is.2
moment_out (Fixed seconds) local t is = compatible_same is.0 (Fixed seconds) local t (sym is.1) is.2
moment_out (Posix rule) local t is = compatible_same is.0 (Posix rule) local t (sym is.1) is.2
moment_out (Tzif table) local t is = compatible_same is.0 (Tzif table) local t (sym is.1) is.2

module _ (zone : TimeZone) (said : ZoneSaid) (same : plain_said zone ≡ said) where
  pub means_offset : (t offset : ℤ) → offset ≡ offset_of zone t → IsOffsetIn said t offset
  means_offset t offset is = subst (λ z. IsOffsetIn z t offset) same (offset_in zone t offset is)

  pub is_offset : (t offset : ℤ) → offset ≡ offset_of zone t → offset ≡ said_offset said t
  is_offset t offset is = is ∙ plain_offset zone t ∙ ap (λ z. said_offset z t) same

  pub means_moment : (local t : ℤ) → IsCompatible zone local t → IsMomentIn said local t
  means_moment local t is = subst (λ z. IsMomentIn z local t) same (moment_in zone local t is)

  pub is_moment : (local t : ℤ) → IsCompatible zone local t → t ≡ said_moment said local
  is_moment local t is = plain_moment zone local t is ∙ ap (λ z. said_moment z local) same

  pub picked_moment : (local t : ℤ) → IsMomentIn said local t → t ≡ said_moment said local → IsCompatible zone local (said_moment said local)
  picked_moment local t means is =
      subst (IsCompatible zone local) is (moment_out zone local t (subst (λ z. IsMomentIn z local t) (sym same) means))

-- a zone of one offset has it at each instant, and a local means the instant that is earlier by it
pub fixed_means : (offset : Offset) (t : ℤ) → IsOffsetIn (jiff_said (own.Fixed offset)) t offset.seconds
unfolding offset_at jiff_said
fixed_means offset t = (Fixed offset, refl, refl)

pub fixed_offset : (offset : Offset) (t : ℤ) → offset.seconds ≡ said_offset (jiff_said (own.Fixed offset)) t
unfolding jiff_said said_offset
fixed_offset offset t = refl

pub fixed_moment : (offset : Offset) (local : ℤ) → local -ℤ offset.seconds ≡ said_moment (jiff_said (own.Fixed offset)) local
unfolding jiff_said said_moment
fixed_moment offset local = refl
