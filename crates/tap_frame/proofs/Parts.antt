-- The parts of bytes: packet information, header and frame.
use Rattle.std.proofs.Common.{◌≡◌, ℕ, ◌+◌, ◌≤◌, Bool, true, false, cond, List, [], ◌++◌, length, take, drop, Option, Some, None, refl, sym, ap, ◌∙◌, drop_at, take-take, drop-drop, append_assoc, arith}
use Rattle.std.specs.Prelude.{MatchOption, unwrap_or, option_map}
use Rattle.std.specs.Option.{ForSome}
use Rattle.std.proofs.lemmas.List.{length-append, length-take-le, take-append-drop, take-append-le}
use Rattle.tap_frame.specs.declared.shape.Shape.{Shape}
use Rattle.tap_frame.specs.Header.{no_header}
use Rattle.tap_frame.specs.Spelling.{pi_size, header_size, Spelled, behind_pi, behind_header, header_in}

-- the sizes that a header may have
abbrev pub HasSize : Option ℕ → Type 0
HasSize size = ForSome size (λ n. (10 ≤ n) × (n ≤ 128))

-- the first bytes of what stands behind the packet information are the header
pub header_taken : (size : Option ℕ) (rest : List ℕ) → HasSize size → unwrap_or size 0 ≤ length rest
    → MatchOption size ((take (unwrap_or size 0) rest ≡ []) × (unwrap_or (option_map (λ n. take 10 rest) size) no_header ≡ no_header)) (λ n. (length (take (unwrap_or size 0) rest) ≡ n) × (unwrap_or (option_map (λ n. take 10 rest) size) no_header ≡ take 10 (take (unwrap_or size 0) rest)))
header_taken None rest sizes long = (refl, refl)
header_taken (Some n) rest sizes long = (length-take-le n rest long, sym (take-take 10 n rest (sizes n refl).0))

-- a header has its size
pub header_length : (size : Option ℕ) (header h : List ℕ) → MatchOption size ((header ≡ []) × (h ≡ no_header)) (λ n. (length header ≡ n) × (h ≡ take 10 header)) → length header ≡ unwrap_or size 0
header_length None header h is = ap length is.0
header_length (Some n) header h is = is.0

-- its first ten bytes are read from it, whatever follows
pub header_kept : (size : Option ℕ) (header h e : List ℕ) → HasSize size → MatchOption size ((header ≡ []) × (h ≡ no_header)) (λ n. (length header ≡ n) × (h ≡ take 10 header))
    → unwrap_or (option_map (λ n. take 10 (header ++ e)) size) no_header ≡ h
header_kept None header h e sizes is = sym is.1
header_kept (Some n) header h e sizes is =
    let long : 10 ≤ length header = omega (arith, (sizes n refl).0, is.0) in
    take-append-le 10 header e long ∙ sym is.1

-- the three parts of bytes that are long enough
pub three_parts : (p n : ℕ) (bytes : List ℕ) → bytes ≡ take p bytes ++ take n (drop p bytes) ++ drop (p + n) bytes
three_parts p n bytes =
    sym (append_assoc (take p bytes) (take n (drop p bytes)) (drop (p + n) bytes)
    ∙ ap (λ (rest : List ℕ). take p bytes ++ (take n (drop p bytes) ++ rest)) (sym (drop-drop n p bytes))
    ∙ ap (λ (rest : List ℕ). take p bytes ++ rest) (take-append-drop n (drop p bytes))
    ∙ take-append-drop p bytes)

-- what stands behind the first part, and behind the second
pub behind_first : (p : ℕ) (first second third : List ℕ) → length first ≡ p → drop p (first ++ second ++ third) ≡ second ++ third
behind_first p first second third len = ap (drop p) (append_assoc first second third) ∙ drop_at first (second ++ third) p len

pub behind_second : (p n : ℕ) (first second third : List ℕ) → length first ≡ p → length second ≡ n → drop (p + n) (first ++ second ++ third) ≡ third
behind_second p n first second third len len' = drop_at (first ++ second) third (p + n) (omega (arith, length-append first second))

-- the packet information is there where enough bytes are
pub pi_there : (pi : Bool) (long : ℕ) → (pi ≡ true → 4 ≤ long) → cond pi 4 0 ≤ long
pi_there true long enough = enough refl
pi_there false long enough = omega arith

-- what was spelled is read
pub record ReadBack (shape : Shape) (bytes h e : List ℕ) : Type 0 where
  pub hdr : header_in shape bytes ≡ h
  pub ether : behind_header shape bytes ≡ e
  pub len : length bytes ≡ (pi_size shape + header_size shape) + length e

pub read_back : (shape : Shape) (bytes h e : List ℕ) → Spelled shape bytes h e → ReadBack shape bytes h e
read_back shape bytes h e s =
    let len : length s.header ≡ header_size shape = header_length shape.hdr s.header h s.header_is in
    let behind : behind_pi shape bytes ≡ s.header ++ e = ap (drop (pi_size shape)) s.parts ∙ behind_first (pi_size shape) s.pi s.header e s.pi_is in
    record {
      hdr = ap (λ (rest : List ℕ). unwrap_or (option_map (λ n. take 10 rest) shape.hdr) no_header) behind ∙ header_kept shape.hdr s.header h e shape.sizes s.header_is;
      ether = ap (drop (pi_size shape + header_size shape)) s.parts ∙ behind_second (pi_size shape) (header_size shape) s.pi s.header e s.pi_is len;
      len = ap length s.parts ∙ omega (arith, length-append (s.pi ++ s.header) e, length-append s.pi s.header, s.pi_is, len);
    }
