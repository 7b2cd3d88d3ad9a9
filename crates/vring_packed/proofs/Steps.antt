-- One descriptor more, of a table and of the ring.
use Rattle.std.proofs.Common.{◌≡◌, ℕ, suc, ◌+◌, ◌-◌, ◌<◌, true, false, cond, ◌≤◌, List, ◌∷◌, sym, ap, ◌∙◌, arith}
use Rattle.std.specs.Prelude.{Result, Ok, Err}
use Rattle.vring_split.specs.declared.fault.RingFault.{RingFault}
use Rattle.vring_split.specs.declared.fault.RingFault.TheVariants.{TooLong}
use Rattle.vring_split.specs.declared.segment.Segment.{Segment}
use Rattle.vring_walk.specs.Chain.{Look, Cover}
use Rattle.vring_packed.specs.declared.desc.PackedDesc.{PackedDesc}
use Rattle.vring_packed.specs.declared.layout.PackedLayout.{PackedLayout}
use Rattle.vring_packed.specs.Packed.{has_next}
use Rattle.vring_packed.specs.Chain.{desc_at, entry_after, entries_from, descs_along, with_segment, with_entries, with_desc}
use Rattle.vring_packed.specs.Fetched.{ChainEnd, Breaks, Gives, chain_end}

-- what is left of a table from an entry on begins with that entry
pub entries_more : (look : Look) (table index entries : ℕ) → index < entries
    → entries_from look table index (entries - index) ≡ desc_at look table index ∷ entries_from look table (index + 1) (entries - (index + 1))
entries_more look table index entries h =
    let e : entries - index ≡ suc (entries - (index + 1)) = omega arith in ap (entries_from look table index) e

-- what is left of the ring from an entry on begins with that entry
pub along_more : (look : Look) (l : PackedLayout) (at seen : ℕ) → seen < l.num
    → descs_along look l at (l.num - seen) ≡ desc_at look l.ring at ∷ descs_along look l (entry_after l.num at) (l.num - (seen + 1))
along_more look l at seen h =
    let e : l.num - seen ≡ suc (l.num - (seen + 1)) = omega arith in ap (descs_along look l at) e

-- after an entry that was taken, and after one that breaks a rule
pub entry_taken : (covers : Cover) (l : PackedLayout) (d : PackedDesc) (ds : List PackedDesc) (met now : List Segment)
    → with_segment covers l d met ≡ Ok now → with_entries covers l (d ∷ ds) met ≡ with_entries covers l ds now
entry_taken covers l d ds met now h =
    ap (λ (r : Result (List Segment) RingFault). elim r as (λ _. Result (List Segment) RingFault) [ Err fault ↦ Err fault | Ok now ↦ with_entries covers l ds now ]) h

pub entry_fails : (covers : Cover) (l : PackedLayout) (d : PackedDesc) (ds : List PackedDesc) (met : List Segment) (f : RingFault)
    → with_segment covers l d met ≡ Err f → with_entries covers l (d ∷ ds) met ≡ Err f
entry_fails covers l d ds met f h =
    ap (λ (r : Result (List Segment) RingFault). elim r as (λ _. Result (List Segment) RingFault) [ Err fault ↦ Err fault | Ok now ↦ with_entries covers l ds now ]) h

-- an entry of a table was looked at, from which on what is left makes the whole
module _ (look : Look) (covers : Cover) (l : PackedLayout) (table index entries : ℕ) (d : PackedDesc) (met : List Segment) (whole : Result (List Segment) RingFault)
    (inside : index < entries) (is : d ≡ desc_at look table index) (left : with_entries covers l (entries_from look table index (entries - index)) met ≡ whole) where
  begins : whole ≡ with_entries covers l (d ∷ entries_from look table (index + 1) (entries - (index + 1))) met
  begins = sym left
      ∙ ap (λ ds. with_entries covers l ds met) (entries_more look table index entries inside)
      ∙ ap (λ x. with_entries covers l (x ∷ entries_from look table (index + 1) (entries - (index + 1))) met) (sym is)

  pub table_fails : (f : RingFault) → with_segment covers l d met ≡ Err f → whole ≡ Err f
  table_fails f h = begins ∙ entry_fails covers l d _ met f h

  pub table_taken : (now : List Segment) → with_segment covers l d met ≡ Ok now → with_entries covers l (entries_from look table (index + 1) (entries - (index + 1))) now ≡ whole
  table_taken now h = sym (begins ∙ entry_taken covers l d _ met now h)

module _ (look : Look) (covers : Cover) (l : PackedLayout) (seen : ℕ) (d : PackedDesc) (ds : List PackedDesc) (met : List Segment) where
  -- how a chain goes on after what its next descriptor brought
  goes_on : Result (List Segment) RingFault → ChainEnd
  goes_on (Err fault) = Breaks fault
  goes_on (Ok now) = cond (has_next d) (chain_end look covers l (seen + 1) ds now) (Gives d.id (seen + 1) now)

  step : chain_end look covers l seen (d ∷ ds) met ≡ goes_on (with_desc look covers l d met)
  unfolding chain_end goes_on
  step = by_result (with_desc look covers l d met)
    where
      by_result : (r : Result (List Segment) RingFault) → (elim r as (λ _. ChainEnd) [ Err fault ↦ Breaks fault | Ok now ↦ cond (has_next d) (chain_end look covers l (seen + 1) ds now) (Gives d.id (seen + 1) now) ]) ≡ goes_on r
      by_result (Err fault) = λ i. Breaks fault
      by_result (Ok now) = λ i. cond (has_next d) (chain_end look covers l (seen + 1) ds now) (Gives d.id (seen + 1) now)

  pub desc_fails : (f : RingFault) → with_desc look covers l d met ≡ Err f → chain_end look covers l seen (d ∷ ds) met ≡ Breaks f
  unfolding goes_on
  desc_fails f h = step ∙ ap goes_on h

  pub desc_ends : (now : List Segment) → with_desc look covers l d met ≡ Ok now → has_next d ≡ false → chain_end look covers l seen (d ∷ ds) met ≡ Gives d.id (seen + 1) now
  unfolding goes_on
  desc_ends now h last = step ∙ ap goes_on h ∙ ap (λ b. cond b (chain_end look covers l (seen + 1) ds now) (Gives d.id (seen + 1) now)) last

  pub desc_taken : (now : List Segment) → with_desc look covers l d met ≡ Ok now → has_next d ≡ true → chain_end look covers l seen (d ∷ ds) met ≡ chain_end look covers l (seen + 1) ds now
  unfolding goes_on
  desc_taken now h more = step ∙ ap goes_on h ∙ ap (λ b. cond b (chain_end look covers l (seen + 1) ds now) (Gives d.id (seen + 1) now)) more

-- a descriptor of the ring was looked at, from which on what is left makes the whole
module _ (look : Look) (covers : Cover) (l : PackedLayout) (at seen : ℕ) (d : PackedDesc) (met : List Segment) (whole : ChainEnd)
    (inside : seen < l.num) (is : d ≡ desc_at look l.ring at) (left : chain_end look covers l seen (descs_along look l at (l.num - seen)) met ≡ whole) where
  starts : whole ≡ chain_end look covers l seen (d ∷ descs_along look l (entry_after l.num at) (l.num - (seen + 1))) met
  starts = sym left
      ∙ ap (λ ds. chain_end look covers l seen ds met) (along_more look l at seen inside)
      ∙ ap (λ x. chain_end look covers l seen (x ∷ descs_along look l (entry_after l.num at) (l.num - (seen + 1))) met) (sym is)

  pub ring_fails : (f : RingFault) → with_desc look covers l d met ≡ Err f → whole ≡ Breaks f
  ring_fails f h = starts ∙ desc_fails look covers l seen d _ met f h

  pub ring_ends : (now : List Segment) → with_desc look covers l d met ≡ Ok now → has_next d ≡ false → whole ≡ Gives d.id (seen + 1) now
  ring_ends now h last = starts ∙ desc_ends look covers l seen d _ met now h last

  pub ring_taken : (now : List Segment) → with_desc look covers l d met ≡ Ok now → has_next d ≡ true
      → chain_end look covers l (seen + 1) (descs_along look l (entry_after l.num at) (l.num - (seen + 1))) now ≡ whole
  ring_taken now h more = sym (starts ∙ desc_taken look covers l seen d _ met now h more)

-- at the end of the ring
pub ring_over : (look : Look) (covers : Cover) (l : PackedLayout) (at seen : ℕ) (met : List Segment) → l.num ≤ seen
    → chain_end look covers l seen (descs_along look l at (l.num - seen)) met ≡ Breaks TooLong
unfolding chain_end
ring_over look covers l at seen met h =
    let e : l.num - seen ≡ 0 = omega arith in ap (λ n. chain_end look covers l seen (descs_along look l at n) met) e
