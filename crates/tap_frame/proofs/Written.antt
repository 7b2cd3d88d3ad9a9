-- The text of a frame.
use Rattle.std.proofs.Common.{◌≡◌, ℕ, ◌+◌, ◌-◌, ◌≤◌, min, Bool, true, false, cond, List, [], ◌∷◌, ◌++◌, length, take, drop, Option, Some, None, refl, sym, ap, subst, ◌∙◌, inl, inr, take_at, take_all, append_assoc, arith}
use Rattle.std.specs.Prelude.{unwrap_or, option_map, replicate, IsSome}
use Rattle.std.proofs.Math.Seq.{take-append-add}
use Rattle.std.proofs.lemmas.Bool.{cases_lt}
use Rattle.std.proofs.lemmas.List.{length-append, length-replicate}
use Rattle.tap_frame.specs.declared.shape.Shape.{Shape}
use Rattle.tap_frame.specs.Header.{no_header}
use Rattle.tap_frame.specs.Spelling.{pi_size, header_size, Spelled, behind_pi, behind_header, header_in, first_case}
use Rattle.tap_frame.specs.Text.{least_room, strip_flag, protocol, packet_information, padded_header, whole_text, text}
use Rattle.tap_frame.proofs.Parts.{HasSize, behind_first, behind_second}
use Rattle.tap_frame.proofs.Cases.{accepted_spells}

information-length : (pi : Bool) (flag : ℕ) (e : List ℕ) → length (cond pi (flag ∷ 0 ∷ protocol e) []) ≡ cond pi 4 0
information-length true flag e = refl
information-length false flag e = refl

padded-length : (size : Option ℕ) (h : List ℕ) → HasSize size → length h ≡ 10 → length (padded_header size h) ≡ unwrap_or size 0
padded-length None h sizes len = refl
padded-length (Some n) h sizes len = omega (arith, length-append h (replicate (n - 10) 0), length-replicate {A = ℕ} (n - 10) 0, (sizes n refl).0)

-- the header's first ten bytes, where there is one
padded-kept : (size : Option ℕ) (h e : List ℕ) → length h ≡ 10 → IsSome size → unwrap_or (option_map (λ n. take 10 (padded_header size h ++ e)) size) no_header ≡ h
padded-kept None h e len is = absurd cc
padded-kept (Some n) h e len is = ap (take 10) (append_assoc h (replicate (n - 10) 0) e) ∙ take_at h (replicate (n - 10) 0 ++ e) 10 len

-- as many bytes as there are, or as the room holds
take-min : (n : ℕ) (e : List ℕ) → take (min (length e) n) e ≡ take n e
take-min n e =
    elim (cases_lt n (length e)) [
      | inl lt ↦ let m : min (length e) n ≡ n = omega arith in rw m refl
      | inr ge ↦ let m : min (length e) n ≡ length e = omega arith in rw m (take_all (length e) e (omega arith) ∙ sym (take_all n e ge))
    ]

-- what a room holds of the text
pub text-parts : (shape : Shape) (h e : List ℕ) (room : ℕ) → length h ≡ 10 → least_room shape ≤ room
    → text shape h e room ≡ packet_information shape e room ++ padded_header shape.hdr h ++ take (min (length e) (room - least_room shape)) e
text-parts shape h e room len le =
    let information : List ℕ = packet_information shape e room in
    let header : List ℕ = padded_header shape.hdr h in
    let front : length (information ++ header) + (room - least_room shape) ≡ room =
    omega (arith, length-append information header, information-length shape.pi (strip_flag shape e room) e, padded-length shape.hdr h shape.sizes len) in
    let cut : take (length (information ++ header) + (room - least_room shape)) ((information ++ header) ++ e) ≡ (information ++ header) ++ take (room - least_room shape) e = take-append-add (information ++ header) e (room - least_room shape) in
    ap (λ n. take n ((information ++ header) ++ e)) (sym front) ∙ cut ∙ ap (λ (rest : List ℕ). (information ++ header) ++ rest) (sym (take-min (room - least_room shape) e))

-- a text that the room holds whole
text-whole : (shape : Shape) (h e : List ℕ) (room : ℕ) → length h ≡ 10 → least_room shape + length e ≤ room → text shape h e room ≡ whole_text shape h e room
text-whole shape h e room len le =
    take_all room (whole_text shape h e room)
    (omega (arith, length-append (packet_information shape e room ++ padded_header shape.hdr h) e, length-append (packet_information shape e room) (padded_header shape.hdr h), information-length shape.pi (strip_flag shape e room) e, padded-length shape.hdr h shape.sizes len))

-- such a text, where no case holds of it, spells the frame again
pub text_spells : (shape : Shape) (h e : List ℕ) (room : ℕ) → length h ≡ 10 → least_room shape + length e ≤ room → first_case shape (text shape h e room) ≡ None
    → (h' : List ℕ) × Spelled shape (text shape h e room) h' e × (IsSome shape.hdr → h' ≡ h)
text_spells shape h e room len le none =
    let written : List ℕ = text shape h e room in
    let whole : written ≡ packet_information shape e room ++ padded_header shape.hdr h ++ e = text-whole shape h e room len le in
    let pi_len = information-length shape.pi (strip_flag shape e room) e in
    let hdr_len = padded-length shape.hdr h shape.sizes len in
    let ether : behind_header shape written ≡ e = ap (drop (pi_size shape + header_size shape)) whole ∙ behind_second (pi_size shape) (header_size shape) (packet_information shape e room) (padded_header shape.hdr h) e pi_len hdr_len in
    let behind : behind_pi shape written ≡ padded_header shape.hdr h ++ e = ap (drop (pi_size shape)) whole ∙ behind_first (pi_size shape) (packet_information shape e room) (padded_header shape.hdr h) e pi_len in
    let spelled : Spelled shape written (header_in shape written) e = subst (λ (x : List ℕ). Spelled shape written (header_in shape written) x) ether (accepted_spells shape written none) in
    (header_in shape written, spelled, λ is. ap (λ (rest : List ℕ). unwrap_or (option_map (λ n. take 10 rest) shape.hdr) no_header) behind ∙ padded-kept shape.hdr h e len is)
