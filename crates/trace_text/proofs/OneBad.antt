-- The first bad line of a text is one.
use Rattle.std.proofs.Common.{◌≡◌, ℕ, Result, Err, suc, ◌<◌, ◌≤◌, ◌⊎◌, inl, inr, List, ◌++◌, take, drop, sym, ap, ◌∙◌, append_assoc, arith}
use Rattle.std.proofs.lemmas.List.{take-append-drop, take-take}
use Rattle.tap_trace.specs.declared.trace.Trace.{Trace}
use Rattle.trace_text.specs.BadLine.{Begins, IsBadLine, IsFirstBad, ended_lines}
use Rattle.trace_text.specs.Laws.{OneBadLine}

-- a text that begins with some lines begins with the first of them
begins_less : (ls : List (List ℕ)) (m n : ℕ) → m ≤ n → Begins (take n ls) → Begins (take m ls)
begins_less ls m n le b = (
  b.0,
  b.1,
  drop m (take n ls) ++ b.2,
  b.3 ∙ ap (λ (x : List (List ℕ)). x ++ b.2) (sym (take-append-drop m (take n ls)) ∙ ap (λ (x : List (List ℕ)). x ++ drop m (take n ls)) (take-take m n ls le))
      ∙ append_assoc (take m ls) (drop m (take n ls)) b.2,
)

-- behind the first bad line no line is the first bad one
not_behind : (bytes : List ℕ) (m n : ℕ) → IsFirstBad bytes m → IsFirstBad bytes n → m < n → ⊥
not_behind bytes m n h k lt =
    let there : suc m ≤ n = omega arith in
    h.bad (omega (arith, k.there)) (begins_less (ended_lines bytes) (suc m) n there k.good)

cases : (a b : ℕ) → (a < b) ⊎ ((a ≡ b) ⊎ (b < a))
cases a b = grind arith

one_before : (bytes : List ℕ) (m n : ℕ) → IsFirstBad bytes m → IsFirstBad bytes n → m ≡ n
one_before bytes m n h k =
    elim (cases m n) [
      | inl lt ↦ absurd (not_behind bytes m n h k lt)
      | inr (inl e) ↦ e
      | inr (inr gt) ↦ absurd (not_behind bytes n m k h gt)
    ]

pub one_bad : OneBadLine
one_bad bytes m n h k = let same : h.0 ≡ k.0 = one_before bytes h.0 k.0 h.2 k.2 in omega (arith, h.1, k.1)

-- a text that is refused at its first bad line has no other
abbrev pub Refused : ℕ → Result Trace ℕ
Refused line = Err line

pub refused_there :
    (bytes : List ℕ) (told : ℕ) → IsBadLine bytes told → (line : ℕ) → IsBadLine bytes line
    → Refused line ≡ Refused told
refused_there bytes told is line bad = ap Refused (one_bad bytes line told bad is)
