-- Epochs and what waits, in the order of the entries; CLAIMED and FREED; entries whose epoch ended.
use Rattle.std.proofs.Common.{◌≡◌, ◌+◌, cond, [], length, Option, Bool, true, refl, ap, ◌∙◌, ⊎_elim}
use Rattle.std.specs.Prelude.{◌==◌, ◌&&◌, ◌||◌, not, nat_le, is_some}
use Rattle.std.specs.Option.{option_map_or}
use Rattle.std.proofs.lemmas.Bool.{and_from, cases_Bool, cases_eq, eq-eqb, ne_eqb, le-leb, or_left, or_right}
use Rattle.tap_ledger.specs.declared.fate.Fate.{Fate}
use Rattle.tap_ledger.specs.declared.fate.Fate.TheVariants as fate
use Rattle.tap_ledger.specs.declared.fate.Cause.TheVariants as cause
use Rattle.tap_steer.specs.Select.{capacity_of}
use Rattle.tap_world.specs.Setup.{Declared}
use Rattle.tap_legal.specs.Numbered.{EntryAt, FileAt, OpAt}
use Rattle.tap_legal.specs.Case.{Case, fails_each, fails_order, of_entry, of_file}
use Rattle.tap_legal.specs.Lookups.{ending_of, table_at}
use Rattle.tap_legal.specs.LegalLines.{epochs_rise, fits_epoch, has_numbers, left_in, numbers_fit, waiting_last}
use Rattle.tap_legal.specs.Takes.{waits, was_cut, was_purged}
use Rattle.tap_sights.specs.LineFacts.{FileTells, IsBehind, TellsFate}
use Rattle.tap_sights.specs.Sights.{Sighted}
use Rattle.tap_sights.proofs.Kit.{none_breaks, none_fails}

-- ---- in the order of the entries

epoch_after : (d e : EntryAt) → IsBehind d e → epochs_rise d e ≡ true
epoch_after d e h = ⊎_elim
    (λ same. or_right (not (d.file == e.file)) (nat_le d.at.epoch e.at.epoch) (le-leb d.at.epoch e.at.epoch (h.epoch same)))
    (λ other. or_left (not (d.file == e.file)) (nat_le d.at.epoch e.at.epoch) (ap not (ne_eqb d.file e.file other)))
    (cases_eq d.file e.file)

waits_after : (d e : EntryAt) → IsBehind d e → waiting_last d e ≡ true
waits_after d e h = ⊎_elim
    (λ same. ⊎_elim
    (λ is. ⊎_elim
    (λ w. or_left (not (d.file == e.file) || not (waits d.at.fate) || waits e.at.fate) (was_cut e.at.fate)
    (or_right (not (d.file == e.file) || not (waits d.at.fate)) (waits e.at.fate) w))
    (λ k. or_right (not (d.file == e.file) || not (waits d.at.fate) || waits e.at.fate) (was_cut e.at.fate) k)
    (h.waits same is))
    (λ none. or_left (not (d.file == e.file) || not (waits d.at.fate) || waits e.at.fate) (was_cut e.at.fate)
    (or_left (not (d.file == e.file) || not (waits d.at.fate)) (waits e.at.fate)
    (or_right (not (d.file == e.file)) (not (waits d.at.fate)) (ap not none))))
    (cases_Bool (waits d.at.fate)))
    (λ other. or_left (not (d.file == e.file) || not (waits d.at.fate) || waits e.at.fate) (was_cut e.at.fate)
    (or_left (not (d.file == e.file) || not (waits d.at.fate)) (waits e.at.fate)
    (or_left (not (d.file == e.file)) (not (waits d.at.fate)) (ap not (ne_eqb d.file e.file other)))))
    (cases_eq d.file e.file)

-- ---- CLAIMED and FREED

and_five : (a b c d e : Bool) → a ≡ true → b ≡ true → c ≡ true → d ≡ true → e ≡ true → (a && b && c && d && e) ≡ true
and_five a b c d e p q r s t =
    and_from (a && b && c && d) e (and_from (a && b && c) d (and_from (a && b) c (and_from a b p q) r) s) t

fit : (c : Case) (f : FileAt) (d : Declared) → FileTells c f d → numbers_fit c f d ≡ true
fit c f d h =
    and_five (f.part.claimed == d.first + length f.part.lines) (nat_le f.part.freed f.part.claimed)
    (nat_le f.part.claimed (f.part.freed + capacity_of (table_at c (length c.ops)) f.part.file))
    (nat_le (d.first + left_in f) f.part.freed) (nat_le f.part.freed (d.first + left_in f + 64))
    (eq-eqb f.part.claimed (d.first + length f.part.lines) h.claimed)
    (le-leb f.part.freed f.part.claimed h.freed)
    (le-leb f.part.claimed (f.part.freed + capacity_of (table_at c (length c.ops)) f.part.file) h.room)
    (le-leb (d.first + left_in f) f.part.freed h.left_from)
    (le-leb f.part.freed (d.first + left_in f + 64) h.left_to)

module _ (c : Case) (s : Sighted c) where
  pub epochs_are : fails_order of_entry epochs_rise c.entries ≡ []
  epochs_are = none_breaks of_entry epochs_rise IsBehind c.entries epoch_after s.lines.behind

  pub waits_are : fails_order of_entry waiting_last c.entries ≡ []
  waits_are = none_breaks of_entry waiting_last IsBehind c.entries waits_after s.lines.behind

  pub numbers_are : fails_each of_file (has_numbers c) c.files ≡ []
  numbers_are = none_fails of_file (has_numbers c) c.files (λ f i.
      let d = s.lines.files f i in
      ap (λ (o : Option Declared). option_map_or (numbers_fit c f) o true) d.1 ∙ fit c f d.0 d.2)

  -- ---- epochs that end

  ended : (e : EntryAt) (f : Fate) → TellsFate c s.seen e f
      → cond (was_purged f) (is_some (ending_of c e.file e.at.epoch)) (not (waits f && is_some (ending_of c e.file e.at.epoch))) ≡ true
  ended e fate.Waiting h = ap (λ (o : Option OpAt). not (is_some o)) h
  ended e (fate.Discarded cause.Purged) h = ap (λ (o : Option OpAt). is_some o) h.ends
  ended e f h = refl

  pub ends_are : fails_each of_entry (fits_epoch c) c.entries ≡ []
  ends_are = none_fails of_entry (fits_epoch c) c.entries (λ e i. ended e e.at.fate (s.lines.each e i).fate)
