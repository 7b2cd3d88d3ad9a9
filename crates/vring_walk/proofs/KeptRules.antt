-- What a descriptor that breaks no rule keeps to.
use Rattle.std.proofs.Common.{◌≡◌, ℕ, ◌*◌, ◌/◌, ◌%◌, ◌<◌, ◌≤◌, Bool, true, false, not, cond, ◌&&◌, ◌||◌, eqb, nat_lt, nat_le, List, [], ◌∷◌, Option, Some, None, refl, ap, arith}
use Rattle.std.proofs.lemmas.Bool.Decides.{nat_tests}
use Rattle.vring_split.specs.declared.desc.Desc.{Desc}
use Rattle.vring_split.specs.declared.fault.RingFault.{RingFault}
use Rattle.vring_split.specs.declared.layout.Layout.{Layout}
use Rattle.vring_split.specs.Split.{has_next, is_writable, is_indirect}
use Rattle.vring_walk.specs.declared.table.Table.{Table}
use Rattle.tap_ground.specs.Options.{first_that_holds as first_broken}
use Rattle.vring_walk.specs.Chain.{Cover, is_bad_length, rules_for}

pub record KeepsTableRules (l : Layout) (t : Table) (d : Desc) : Type 0 where
  pub plain : t.indirect ≡ false
  pub alone : has_next d ≡ false
  pub some : 0 < d.len
  pub whole : 16 * (d.len / 16) ≡ d.len
  pub most : d.len ≤ 16384

pub record KeepsRules (covers : Cover) (l : Layout) (t : Table) (d : Desc) (seen count : ℕ) (writable : Bool) : Type 0 where
  pub room : seen < t.entries
  pub table : is_indirect d ≡ true → KeepsTableRules l t d
  pub mapped : covers d.addr d.len ≡ true
  pub few : is_indirect d ≡ false → count < 1024
  pub next : has_next d ≡ true → d.next < t.entries
  pub directed : is_indirect d ≡ false → is_writable d ≡ l.rx

-- no rule is broken
abbrev pub AllKept : List (Bool × RingFault) → Type 0
AllKept [] = Unit {0}
AllKept (rule ∷ rules) = (rule.0 ≡ false) × AllKept rules

all_kept : (rules : List (Bool × RingFault)) → first_broken rules ≡ None → AllKept rules
all_kept [] e = tt
all_kept (rule ∷ rules) e = let both = first_kept rule.0 rule.1 (first_broken rules) e in (both.0, all_kept rules both.1)
  where
    first_kept : (b : Bool) (f : RingFault) (o : Option RingFault) → cond b (Some f) o ≡ None → (b ≡ false) × (o ≡ None)
    first_kept true f o e = absurd (cc)
    first_kept false f o e = (refl, e)

-- a test behind another
second_off : (a b : Bool) → (a && b) ≡ false → a ≡ true → b ≡ false
second_off true b e h = e
second_off false b e h = absurd (cc)

not_off : (a : Bool) → not a ≡ false → a ≡ true
not_off true e = refl
not_off false e = absurd (cc)

good_length : (len : ℕ) → is_bad_length len ≡ false → (0 < len) × (16 * (len / 16) ≡ len) × (len ≤ 16384)
good_length len e =
    let off = three (eqb len 0) (not (eqb (len % 16) 0)) (nat_lt 16384 len) e in
    (some len off.0, whole len (not_off _ off.1), most len off.2)
  where
    three : (a b c : Bool) → (a || b || c) ≡ false → (a ≡ false) × (b ≡ false) × (c ≡ false)
    three true b c e = absurd (cc)
    three false true c e = absurd (cc)
    three false false true e = absurd (cc)
    three false false false e = (refl, refl, refl)

    some : (n : ℕ) → eqb n 0 ≡ false → 0 < n
    some n h = grind (arith, nat_tests)

    whole : (n : ℕ) → eqb (n % 16) 0 ≡ true → 16 * (n / 16) ≡ n
    whole n h = let zero_rest : n % 16 ≡ 0 = grind (arith, nat_tests) in omega arith

    most : (n : ℕ) → nat_lt 16384 n ≡ false → n ≤ 16384
    most n h = grind (arith, nat_tests)

pub keeps_rules : (covers : Cover) (l : Layout) (t : Table) (d : Desc) (seen count : ℕ) (writable : Bool) → first_broken (rules_for covers l t d seen count writable) ≡ None → KeepsRules covers l t d seen count writable
keeps_rules covers l t d seen count writable e =
    let kept = all_kept (rules_for covers l t d seen count writable) e in
    record {
      room = above t.entries seen kept.0;
      table = λ i.
          let len = good_length d.len (second_off (is_indirect d) (is_bad_length d.len) kept.1.1.1.1.0 i) in
          record {
            plain = second_off (is_indirect d) t.indirect kept.1.1.0 i;
            alone = second_off (is_indirect d) (has_next d) kept.1.1.1.0 i;
            some = len.0;
            whole = len.1;
            most = len.2;
          };
      mapped = not_off _ kept.1.1.1.1.1.0;
      few = λ i. above 1024 count (second_off (not (is_indirect d)) (nat_le 1024 count) kept.1.1.1.1.1.1.1.1.0 (ap not i));
      next = λ n. above t.entries d.next (second_off (has_next d) (nat_le t.entries d.next) kept.1.1.1.1.1.1.1.1.1.0 n);
      directed = λ i. same_side l.rx (is_writable d) (second_off (not (is_indirect d)) _ kept.1.1.1.1.1.1.1.0 (ap not i));
    }
  where
    same_side : (rx w : Bool) → cond rx (not w) w ≡ false → w ≡ rx
    same_side true true e = refl
    same_side true false e = absurd (cc)
    same_side false true e = absurd (cc)
    same_side false false e = refl

    above : (a b : ℕ) → nat_le a b ≡ false → b < a
    above a b h = grind (arith, nat_tests)
