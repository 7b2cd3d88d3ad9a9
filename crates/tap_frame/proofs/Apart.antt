-- Bytes whose front stands apart: the cases, read off the two parts.
use Rattle.std.proofs.Common.{◌≡◌, ℕ, ◌≤◌, ◌<◌, Bool, true, false, cond, ltb, List, ◌++◌, length, take, drop, Option, Some, None, refl, sym, ap, ◌∙◌, inl, inr, drop_at, arith}
use Rattle.std.specs.Prelude.{◌&&◌, unwrap_or, option_map}
use Rattle.std.proofs.lemmas.Bool.{cases_lt, le-ltb, lt-ltb}
use Rattle.std.proofs.lemmas.List.{length-append, length-take, length-drop, take-append-le, drop-append-le}
use Rattle.tap_frame.specs.declared.shape.Shape.{Shape}
use Rattle.tap_frame.specs.declared.reading.BadFrame.{BadFrame}
use Rattle.tap_frame.specs.declared.reading.BadFrame.TheVariants.{ShortPi, ShortHdr, HdrBeyond, ShortEther, HdrShort, TooLong}
use Rattle.tap_frame.specs.Header.{no_header}
use Rattle.tap_frame.specs.Spelling.{pi_size, header_size, behind_pi, behind_header, header_in, reach_in, first_case}
use Rattle.tap_frame.specs.Text.{least_room}
use Rattle.tap_frame.proofs.Parts.{HasSize, pi_there}
use Rattle.tap_frame.proofs.Cases.{enough, no_short_pi}

-- the cases by tests on the parts
abbrev pub chain : Bool → Bool → ℕ → ℕ → Option BadFrame
chain pi hdr reach ether =
    cond pi (Some ShortPi)
    (cond hdr (Some ShortHdr)
    (cond (ltb ether reach) (Some HdrBeyond)
    (cond (ltb ether 14) (Some ShortEther)
    (cond (ltb 0 reach && ltb reach 14) (Some HdrShort)
    (cond (ltb 65535 ether) (Some TooLong) None)))))

kept_apart :
    (size : Option ℕ) (rest ether : List ℕ) → HasSize size → unwrap_or size 0 ≤ length rest
    → unwrap_or (option_map (λ n. take 10 (rest ++ ether)) size) no_header
    ≡ unwrap_or (option_map (λ n. take 10 rest) size) no_header
kept_apart None rest ether sizes long = refl
kept_apart (Some n) rest ether sizes long = take-append-le 10 rest ether (omega (arith, (sizes n refl).0, long))

-- the header is the front's, where that is long enough
pub header_apart :
    (shape : Shape) (front ether : List ℕ) → least_room shape ≤ length front
    → header_in shape (front ++ ether) ≡ header_in shape front
header_apart shape front ether long =
    let p = pi_size shape in
    let enough_pi : p ≤ length front = omega arith in
    ap (λ (rest : List ℕ). unwrap_or (option_map (λ n. take 10 rest) shape.hdr) no_header)
    (drop-append-le p front ether enough_pi)
    ∙ kept_apart shape.hdr (drop p front) ether shape.sizes (omega (arith, length-drop p front, long))

-- two chains that end with their first two tests are equal, whatever follows
two :
    (t h h' : Bool) (x y : Option BadFrame) → (t ≡ false → h ≡ true) → (t ≡ false → h' ≡ true)
    → cond t (Some ShortPi) (cond h (Some ShortHdr) x) ≡ cond t (Some ShortPi) (cond h' (Some ShortHdr) y)
two true h h' x y p q = refl
two false h h' x y p q = rw (p refl, q refl) refl

short_apart :
    (shape : Shape) (front ether : List ℕ)
    → length (front ++ ether) ≡ length front → length front < least_room shape
    → first_case shape (front ++ ether)
    ≡ chain (shape.pi && ltb (length front) 4) (ltb (length front) (least_room shape)) (reach_in shape front)
    (length ether)
short_apart shape front ether all short =
    let few : (shape.pi && ltb (length front) 4) ≡ false
    → ltb (length (behind_pi shape (front ++ ether))) (header_size shape) ≡ true =
    λ t. lt-ltb _ _
    (omega (
      arith,
      length-drop (pi_size shape) (front ++ ether),
      all,
      short,
      pi_there shape.pi (length front) (enough shape.pi (length front) t),
    )) in
    rw all
    (two (shape.pi && ltb (length front) 4) _ _ _ _ few (λ t. lt-ltb (length front) (least_room shape) short))

long_apart :
    (shape : Shape) (front ether : List ℕ) → length front ≡ least_room shape
    → first_case shape (front ++ ether)
    ≡ chain (shape.pi && ltb (length front) 4) (ltb (length front) (least_room shape)) (reach_in shape front)
    (length ether)
long_apart shape front ether long =
    let n = length-append front ether in
    let no_pi = no_short_pi shape.pi (length (front ++ ether)) (omega (arith, n, long)) in
    let no_pi' = no_short_pi shape.pi (length front) (omega (arith, long)) in
    let no_hdr =
    le-ltb (length (behind_pi shape (front ++ ether))) (header_size shape)
    (omega (arith, n, long, length-drop (pi_size shape) (front ++ ether))) in
    let no_hdr' = le-ltb (length front) (least_room shape) (omega (arith, long)) in
    let header = header_apart shape front ether (omega (arith, long)) in
    let behind : behind_header shape (front ++ ether) ≡ ether = drop_at front ether (least_room shape) long in
    rw (no_pi, no_pi', no_hdr, no_hdr', header, behind) refl

-- the first case of the whole
pub case_apart :
    (shape : Shape) (front ether : List ℕ) → front ≡ take (least_room shape) (front ++ ether)
    → first_case shape (front ++ ether)
    ≡ chain (shape.pi && ltb (length front) 4) (ltb (length front) (least_room shape)) (reach_in shape front)
    (length ether)
case_apart shape front ether same =
    let a = ap length same in
    let b = length-take (least_room shape) (front ++ ether) in
    let n = length-append front ether in
    elim (cases_lt (length front) (least_room shape)) [
      | inl short ↦ short_apart shape front ether (omega (arith, a, b, n, short)) short
      | inr long ↦ long_apart shape front ether (omega (arith, a, b, n, long))
    ]

-- the cases behind the first two
abbrev pub behind : ℕ → ℕ → Option BadFrame
behind reach ether =
    cond (ltb ether reach) (Some HdrBeyond)
    (cond (ltb ether 14) (Some ShortEther)
    (cond (ltb 0 reach && ltb reach 14) (Some HdrShort)
    (cond (ltb 65535 ether) (Some TooLong) None)))

-- where the front is whole they alone are left
pub whole_apart :
    (shape : Shape) (front ether : List ℕ) (reach : ℕ) → front ≡ take (least_room shape) (front ++ ether)
    → least_room shape ≤ length front → reach ≡ reach_in shape front
    → first_case shape (front ++ ether) ≡ behind reach (length ether)
whole_apart shape front ether reach same whole is =
    let no_pi = no_short_pi shape.pi (length front) (omega (arith, whole)) in
    let at : chain (shape.pi && ltb (length front) 4) (ltb (length front) (least_room shape)) reach (length ether)
    ≡ behind reach (length ether) = rw (no_pi, le-ltb (length front) (least_room shape) whole) refl in
    case_apart shape front ether same
    ∙ ap (λ r. chain (shape.pi && ltb (length front) 4) (ltb (length front) (least_room shape)) r (length ether))
    (sym is)
    ∙ at
