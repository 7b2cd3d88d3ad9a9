-- Blocks in rising order: which of them has an address.
use Rattle.std.proofs.Common.{◌≡◌, ℕ, zero, suc, ◌+◌, ◌^◌, ◌<◌, ◌≤◌, ◌⊎◌, inl, inr, true, false, cond, List, [], ◌∷◌, length, get_or, Some, None, refl, ap, ◌∙◌, subst, arith}
use Rattle.std.proofs.lemmas.Bool.Decides.{nat_tests}
use Rattle.guest_mem.specs.declared.block.Block.{Block}
use Rattle.guest_mem.specs.Blocks.{end_of, has_addr, byte_of, byte_in, AreApart}

pub nonempty : (low : ℕ) (bs : List Block) (k : ℕ) (d : Block) → AreApart low bs → k < length bs → (get_or bs k d).addr < end_of (get_or bs k d)
nonempty low [] k d h l = absurd (omega arith)
nonempty low (b ∷ bs) zero d h l = let some = h.1 in omega arith
nonempty low (b ∷ bs) (suc k) d h l = nonempty (end_of b + 1) bs k d h.3 (omega arith)

pub ends : (low : ℕ) (bs : List Block) (k : ℕ) (d : Block) → AreApart low bs → k < length bs → end_of (get_or bs k d) < 2 ^ 64
ends low [] k d h l = absurd (omega arith)
ends low (b ∷ bs) zero d h l = h.2
ends low (b ∷ bs) (suc k) d h l = ends (end_of b + 1) bs k d h.3 (omega arith)

pub above : (low : ℕ) (bs : List Block) (k : ℕ) (d : Block) → AreApart low bs → k < length bs → low ≤ (get_or bs k d).addr
above low [] k d h l = absurd (omega arith)
above low (b ∷ bs) zero d h l = h.0
above low (b ∷ bs) (suc k) d h l = let low_first = h.0 in let rest = above (end_of b + 1) bs k d h.3 (omega arith) in omega arith

-- behind each block there is an address before the next ones
pub ordered : (low : ℕ) (bs : List Block) (j k : ℕ) (d : Block) → AreApart low bs → j < k → k < length bs → end_of (get_or bs j d) < (get_or bs k d).addr
ordered low [] j k d h lt l = absurd (omega arith)
ordered low (b ∷ bs) zero zero d h lt l = absurd (omega arith)
ordered low (b ∷ bs) zero (suc k) d h lt l = let next = above (end_of b + 1) bs k d h.3 (omega arith) in omega arith
ordered low (b ∷ bs) (suc j) zero d h lt l = absurd (omega arith)
ordered low (b ∷ bs) (suc j) (suc k) d h lt l = ordered (end_of b + 1) bs j k d h.3 (omega arith) (omega arith)

less_or_same : (a b : ℕ) → a ≤ b → (a < b) ⊎ (a ≡ b)
less_or_same a b h = grind arith

-- the ends rise
pub rising : (bs : List Block) (d : Block) → AreApart 0 bs → (j k : ℕ) → j ≤ k → k < length bs → end_of (get_or bs j d) ≤ end_of (get_or bs k d)
rising bs d h j k le l = elim (less_or_same j k le) [
  | inl lt ↦ let before = ordered 0 bs j k d h lt l in let some = nonempty 0 bs k d h l in omega arith
  | inr e ↦ subst (λ i. end_of (get_or bs j d) ≤ end_of (get_or bs i d)) e (omega arith)
]

-- the starts rise
pub starts_rise : (bs : List Block) (d : Block) → AreApart 0 bs → (j k : ℕ) → j ≤ k → k < length bs → (get_or bs j d).addr ≤ (get_or bs k d).addr
starts_rise bs d h j k le l = elim (less_or_same j k le) [
  | inl lt ↦ let before = ordered 0 bs j k d h lt l in let some = nonempty 0 bs j d h (omega arith) in omega arith
  | inr e ↦ subst (λ i. (get_or bs j d).addr ≤ (get_or bs i d).addr) e (omega arith)
]

-- no block has the address
unheld : (bs : List Block) (x : ℕ) → ((k : ℕ) (d : Block) → k < length bs → has_addr (get_or bs k d) x ≡ false) → byte_in bs x ≡ None
unheld [] x none_has = refl
unheld (b ∷ bs) x none_has =
    ap (λ t. cond t (Some (byte_of b x)) (byte_in bs x)) (none_has zero b (omega arith)) ∙ unheld bs x (λ k d l. none_has (suc k) d (omega arith))

-- the first n blocks end at the address or before it, and the others start behind it
pub between : (bs : List Block) (n x : ℕ) → ((k : ℕ) (d : Block) → k < n → k < length bs → end_of (get_or bs k d) ≤ x) → ((k : ℕ) (d : Block) → n ≤ k → k < length bs → x < (get_or bs k d).addr) → byte_in bs x ≡ None
between bs n x passed ahead = unheld bs x (λ k d l. elim (cases k n) [
  | inl lt ↦ let p = passed k d lt l in grind (arith, nat_tests)
  | inr le ↦ let p = ahead k d le l in grind (arith, nat_tests)
])
  where
    cases : (a b : ℕ) → (a < b) ⊎ (b ≤ a)
    cases a b = grind arith

-- the block that has an address gives its byte
pub held : (low : ℕ) (bs : List Block) (k x : ℕ) (d : Block) → AreApart low bs → k < length bs → (get_or bs k d).addr ≤ x → x < end_of (get_or bs k d) → byte_in bs x ≡ Some (byte_of (get_or bs k d) x)
held low [] k x d h l from to = absurd (omega arith)
held low (b ∷ bs) zero x d h l from to =
    let has : has_addr b x ≡ true = grind (arith, nat_tests) in ap (λ t. cond t (Some (byte_of b x)) (byte_in bs x)) has
held low (b ∷ bs) (suc k) x d h l from to =
    let first = above (end_of b + 1) bs k d h.3 (omega arith) in
    let past : has_addr b x ≡ false = grind (arith, nat_tests) in
    ap (λ t. cond t (Some (byte_of b x)) (byte_in bs x)) past ∙ held (end_of b + 1) bs k x d h.3 (omega arith) from to

-- inside a list the default does not count
pub any_default : (bs : List Block) (k : ℕ) (d e : Block) → k < length bs → get_or bs k d ≡ get_or bs k e
any_default [] k d e l = absurd (omega arith)
any_default (b ∷ bs) zero d e l = refl
any_default (b ∷ bs) (suc k) d e l = any_default bs k d e (omega arith)

-- the address at which a block ends has no byte
pub at_end : (bs : List Block) (k : ℕ) (d : Block) (x : ℕ) → AreApart 0 bs → k < length bs → x ≡ end_of (get_or bs k d) → byte_in bs x ≡ None
at_end bs k d x h l e = between bs (k + 1) x
    (λ j c lt lj. let upto = rising bs c h j k (omega arith) l in let same = any_end c in omega arith)
    (λ j c le lj. let next = ordered 0 bs k j c h (omega arith) lj in let same = any_end c in omega arith)
  where
    any_end : (c : Block) → end_of (get_or bs k c) ≡ end_of (get_or bs k d)
    any_end c = ap (λ (b : Block). end_of b) (any_default bs k c d l)

-- nor has the one right before its start
pub before_start : (bs : List Block) (k : ℕ) (d : Block) (x : ℕ) → AreApart 0 bs → k < length bs → x + 1 ≡ (get_or bs k d).addr → byte_in bs x ≡ None
before_start bs k d x h l e = between bs k x
    (λ j c lt lj. let before = ordered 0 bs j k c h lt l in let same = any_start c in omega arith)
    (λ j c le lj. let later = starts_rise bs c h k j le lj in let same = any_start c in omega arith)
  where
    any_start : (c : Block) → (get_or bs k c).addr ≡ (get_or bs k d).addr
    any_start c = ap (λ (b : Block). b.addr) (any_default bs k c d l)
