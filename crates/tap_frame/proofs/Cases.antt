-- No case holds of bytes exactly where they spell a frame.
use Rattle.std.proofs.Common.{◌≡◌, ℕ, ◌≤◌, ◌⊎◌, Bool, true, false, cond, ltb, List, length, take, Option, Some, None, refl, sym, ap, ◌∙◌, inl, inr, arith}
use Rattle.std.specs.Prelude.{◌&&◌}
use Rattle.std.proofs.lemmas.Bool.{ltb-false, le-ltb, and_cases, and_left, and_right}
use Rattle.std.proofs.lemmas.List.{length-drop, length-take-le}
use Rattle.tap_frame.specs.declared.shape.Shape.{Shape}
use Rattle.tap_frame.specs.declared.reading.BadFrame.{BadFrame}
use Rattle.tap_frame.specs.Header.{header_reach}
use Rattle.tap_frame.specs.Spelling.{pi_size, header_size, Spelled, behind_pi, behind_header, header_in, reach_in, first_case}
use Rattle.tap_frame.proofs.Parts.{header_taken, three_parts, pi_there, read_back}

-- a case that didn't hold, and what the others say
passed : (b : Bool) (bad : BadFrame) (others : Option BadFrame) → cond b (Some bad) others ≡ None → (b ≡ false) × (others ≡ None)
passed true bad others e = absurd cc
passed false bad others e = (refl, e)

-- none of the six
pub record Faultless (shape : Shape) (bytes : List ℕ) : Type 0 where
  pub pi : (shape.pi && ltb (length bytes) 4) ≡ false
  pub hdr : header_size shape ≤ length (behind_pi shape bytes)
  pub beyond : reach_in shape bytes ≤ length (behind_header shape bytes)
  pub ether : 14 ≤ length (behind_header shape bytes)
  pub reach : (ltb 0 (reach_in shape bytes) && ltb (reach_in shape bytes) 14) ≡ false
  pub most : length (behind_header shape bytes) ≤ 65535

pub faultless : (shape : Shape) (bytes : List ℕ) → first_case shape bytes ≡ None → Faultless shape bytes
faultless shape bytes e =
    let a = passed _ _ _ e in
    let b = passed _ _ _ a.1 in
    let c = passed _ _ _ b.1 in
    let d = passed _ _ _ c.1 in
    let f = passed _ _ _ d.1 in
    let g = passed _ _ _ f.1 in
    record { pi = a.0; hdr = ltb-false _ _ b.0; beyond = ltb-false _ _ c.0; ether = ltb-false _ _ d.0; reach = f.0; most = ltb-false _ _ g.0 }

pub no_case : (shape : Shape) (bytes : List ℕ) → Faultless shape bytes → first_case shape bytes ≡ None
no_case shape bytes f = rw (f.pi, le-ltb _ _ f.hdr, le-ltb _ _ f.beyond, le-ltb _ _ f.ether, f.reach, le-ltb _ _ f.most) refl

-- the packet information
pub enough : (pi : Bool) (long : ℕ) → (pi && ltb long 4) ≡ false → pi ≡ true → 4 ≤ long
enough true long e is = ltb-false long 4 e
enough false long e is = absurd cc

-- nowhere, or past the Ethernet header
reaches : (reach long : ℕ) → (ltb 0 reach && ltb reach 14) ≡ false → reach ≤ long → (reach ≡ 0) ⊎ ((14 ≤ reach) × (reach ≤ long))
reaches reach long e within =
    elim (and_cases (ltb 0 reach) (ltb reach 14) e) [
      | inl none ↦ let zero : reach ≤ 0 = ltb-false 0 reach none in inl (omega arith)
      | inr past ↦ inr (ltb-false reach 14 past, within)
    ]

reaches_back : (reach long : ℕ) → (reach ≡ 0) ⊎ ((14 ≤ reach) × (reach ≤ long)) → (ltb 0 reach && ltb reach 14) ≡ false
reaches_back reach long (inl none) = and_left _ _ (le-ltb 0 reach (omega arith))
reaches_back reach long (inr past) = and_right _ _ (le-ltb reach 14 past.0)

within_back : (reach long : ℕ) → (reach ≡ 0) ⊎ ((14 ≤ reach) × (reach ≤ long)) → reach ≤ long
within_back reach long (inl none) = omega arith
within_back reach long (inr past) = past.1

-- bytes of which no case holds spell what is read from them
pub faultless_spells : (shape : Shape) (bytes : List ℕ) → Faultless shape bytes → Spelled shape bytes (header_in shape bytes) (behind_header shape bytes)
faultless_spells shape bytes f = record {
  pi = take (pi_size shape) bytes;
  header = take (header_size shape) (behind_pi shape bytes);
  parts = three_parts (pi_size shape) (header_size shape) bytes;
  pi_is = length-take-le (pi_size shape) bytes (pi_there shape.pi (length bytes) (enough shape.pi (length bytes) f.pi));
  header_is = header_taken shape.hdr (behind_pi shape bytes) shape.sizes f.hdr;
  at_least = f.ether;
  at_most = f.most;
  reach = reaches (reach_in shape bytes) (length (behind_header shape bytes)) f.reach f.beyond;
}

pub accepted_spells : (shape : Shape) (bytes : List ℕ) → first_case shape bytes ≡ None → Spelled shape bytes (header_in shape bytes) (behind_header shape bytes)
accepted_spells shape bytes e = faultless_spells shape bytes (faultless shape bytes e)

pub no_short_pi : (pi : Bool) (long : ℕ) → cond pi 4 0 ≤ long → (pi && ltb long 4) ≡ false
no_short_pi true long le = le-ltb long 4 le
no_short_pi false long le = refl

-- of bytes that spell a frame no case holds
pub spelled_faultless : (shape : Shape) (bytes h e : List ℕ) → Spelled shape bytes h e → Faultless shape bytes
spelled_faultless shape bytes h e s =
    let b = read_back shape bytes h e s in
    let len : length (behind_header shape bytes) ≡ length e = ap length b.ether in
    let reach : reach_in shape bytes ≡ header_reach h = ap header_reach b.hdr in
    record {
      pi = no_short_pi shape.pi (length bytes) (omega (arith, b.len));
      hdr = omega (arith, b.len, length-drop (pi_size shape) bytes);
      beyond = rw (reach, len) (within_back (header_reach h) (length e) s.reach);
      ether = rw len s.at_least;
      reach = rw reach (reaches_back (header_reach h) (length e) s.reach);
      most = rw len s.at_most;
    }

-- bytes spell one frame with one header
pub spelled_once : (shape : Shape) (bytes h e h' e' : List ℕ) → Spelled shape bytes h e → Spelled shape bytes h' e' → (h ≡ h') × (e ≡ e')
spelled_once shape bytes h e h' e' s s' =
    let b = read_back shape bytes h e s in
    let b' = read_back shape bytes h' e' s' in
    (sym b.hdr ∙ b'.hdr, sym b.ether ∙ b'.ether)
