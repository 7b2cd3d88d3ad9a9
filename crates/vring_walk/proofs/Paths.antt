-- How a path goes on, and how long it can be.
use Rattle.std.proofs.Common.{◌≡◌, ℕ, suc, ◌+◌, ◌<◌, ◌≤◌, ◌⊎◌, inl, inr, Bool, true, false, not, cond, List, [], ◌∷◌, length, filter, Some, None, refl, sym, ap, ◌∙◌, subst, arith}
use Rattle.std.specs.Int.{is_power_of_two}
use Rattle.std.specs.List.{list_any}
use Rattle.std.proofs.lemmas.Nat.{ones_le_self}
use Rattle.std.proofs.lemmas.Bool.Decides.{nat_tests}
use Rattle.vring_split.specs.declared.layout.Layout.{Layout}
use Rattle.vring_split.specs.Split.{has_next, is_indirect}
use Rattle.vring_walk.specs.declared.table.Table.{Table}
use Rattle.vring_walk.specs.Chain.{Look, Cover, Place, desc_at, table_of, next_place, seen_in, segments_of, Reaches}
use Rattle.vring_walk.proofs.KeptRules.{KeepsRules, keeps_rules}

-- none of the places stands in an indirect table
abbrev pub AllOwn : List Place → Type 0
AllOwn behind = length (filter (λ q. q.table.indirect) behind) ≡ 0

pub seen_own : (t : Table) (behind : List Place) → t.indirect ≡ false → seen_in t behind ≡ length (filter (λ q. not q.table.indirect) behind)
seen_own t behind h = ap (λ b. length (filter {X = Place} (λ q. cond b q.table.indirect (not q.table.indirect)) behind)) h

pub seen_indirect : (t : Table) (behind : List Place) → t.indirect ≡ true → seen_in t behind ≡ length (filter (λ q. q.table.indirect) behind)
seen_indirect t behind h = ap (λ b. length (filter {X = Place} (λ q. cond b q.table.indirect (not q.table.indirect)) behind)) h

-- a place counts in its own table
pub seen_more : (q : Place) (behind : List Place) → seen_in q.table (q ∷ behind) ≡ 1 + seen_in q.table behind
seen_more q behind = let F = filter (λ (r : Place). cond q.table.indirect r.table.indirect (not r.table.indirect)) behind in ap (λ b. length (cond b (q ∷ F) F)) (same q.table.indirect) ∙ add_one_here (length F)
  where
    same : (b : Bool) → cond b b (not b) ≡ true
    same true = refl
    same false = refl

    add_one_here : (n : ℕ) → suc n ≡ 1 + n
    add_one_here n = omega arith

-- how long a path can be that came to a place
pub record IsShort (l : Layout) (behind : List Place) (p : Place) : Type 0 where
  pub fits : seen_in p.table behind ≤ p.table.entries
  pub own : p.table.indirect ≡ false → (p.table.entries ≡ l.num) × (length behind ≤ seen_in p.table behind) × AllOwn behind
  pub inner : p.table.indirect ≡ true → (p.table.entries ≤ 1024) × (length behind ≤ l.num + seen_in p.table behind)

-- a power of two is not 0
pub power_positive : (n : ℕ) → is_power_of_two n ≡ true → 0 < n
power_positive n h = let le = ones_le_self n in grind (arith, nat_tests)

module _ (look : Look) (covers : Cover) (l : Layout) where
  -- the two ways on: into the table that a descriptor refers to, or along NEXT
  pub record GoesInto (q p : Place) : Type 0 where
    pub refers : is_indirect (desc_at look q) ≡ true
    pub to : p ≡ record { table = table_of (desc_at look q); index = 0 }

  pub record GoesAlong (q p : Place) : Type 0 where
    pub plain : is_indirect (desc_at look q) ≡ false
    pub next : has_next (desc_at look q) ≡ true
    pub to : p ≡ record { table = q.table; index = (desc_at look q).next }

  pub ways_on : (q p : Place) → next_place look q ≡ Some p → GoesInto q p ⊎ GoesAlong q p
  ways_on q p e = by_flags (is_indirect (desc_at look q)) (has_next (desc_at look q)) refl refl e
    where
      by_flags : (b c : Bool) → is_indirect (desc_at look q) ≡ b → has_next (desc_at look q) ≡ c → cond b (Some (record { table = table_of (desc_at look q); index = 0 })) (cond c (Some (record { table = q.table; index = (desc_at look q).next })) None) ≡ Some p → GoesInto q p ⊎ GoesAlong q p
      by_flags true c i n e = inl (record { refers = i; to = cc })
      by_flags false true i n e = inr (record { plain = i; next = n; to = cc })
      by_flags false false i n e = absurd (cc)

  pub short : (head : ℕ) (behind : List Place) (p : Place) → Reaches look covers l head behind p → IsShort l behind p
  short head [] p e =
      let P : Place → Type 0 = λ q. IsShort l [] q in
      subst P (sym e) (record { fits = omega arith; own = λ h. (refl, omega arith, refl); inner = λ h. absurd (cc) })
  short head (q ∷ behind) p e =
      let s = short head behind q e.0 in
      let kept = keeps_rules covers l q.table (desc_at look q) _ _ _ e.1 in
      elim (ways_on q p e.2) [
        | inl way ↦
            let P : Place → Type 0 = λ r. IsShort l (q ∷ behind) r in
            subst P (sym way.to) (into q behind s kept way.refers)
        | inr way ↦
            let P : Place → Type 0 = λ r. IsShort l (q ∷ behind) r in
            subst P (sym way.to) (along q behind (desc_at look q).next s kept.room)
      ]
    where
      into : (q : Place) (behind : List Place) → IsShort l behind q → KeepsRules covers l q.table (desc_at look q) (seen_in q.table behind) (length (segments_of look behind)) (list_any (λ s. s.write) (segments_of look behind)) → is_indirect (desc_at look q) ≡ true → IsShort l (q ∷ behind) (record { table = table_of (desc_at look q); index = 0 })
      into q behind s kept refers =
          let rules = kept.table refers in
          let own = s.own rules.plain in
          let none_inside : length (filter (λ (r : Place). r.table.indirect) (q ∷ behind)) ≡ 0 = ap (λ b. length (cond b (q ∷ filter (λ (r : Place). r.table.indirect) behind) (filter (λ (r : Place). r.table.indirect) behind))) rules.plain ∙ own.2 in
          record {
            fits = let whole = rules.whole in omega (arith, none_inside);
            own = λ h. absurd (cc);
            inner = λ h. (let most = rules.most in let whole = rules.whole in omega arith, let room = kept.room in let len = own.1 in let entries = own.0 in omega arith);
          }

      along : (q : Place) (behind : List Place) (next : ℕ) → IsShort l behind q → seen_in q.table behind < q.table.entries → IsShort l (q ∷ behind) (record { table = q.table; index = next })
      along q behind next s room =
          let more = seen_more q behind in
          record {
            fits = omega (arith, more);
            own = λ h.
                let own = s.own h in
                let len = own.1 in
                (own.0, omega (arith, more), ap (λ b. length (cond b (q ∷ filter (λ (r : Place). r.table.indirect) behind) (filter (λ (r : Place). r.table.indirect) behind))) h ∙ own.2);
            inner = λ h. let inner = s.inner h in let len = inner.1 in (inner.0, omega (arith, more));
          }

  -- no path is longer than the queue size and 1,024
  pub path_length : (head : ℕ) (behind : List Place) (p : Place) → Reaches look covers l head behind p → length behind ≤ l.num + 1024
  path_length head behind p e =
      let s = short head behind p e in
      let fits = s.fits in
      by_table p.table.indirect refl
    where
      by_table : (b : Bool) → p.table.indirect ≡ b → length behind ≤ l.num + 1024
      by_table false h = let own = (short head behind p e).own h in let entries = own.0 in let len = own.1 in let fits = (short head behind p e).fits in omega arith
      by_table true h = let inner = (short head behind p e).inner h in let entries = inner.0 in let len = inner.1 in let fits = (short head behind p e).fits in omega arith

  -- no table on a path has more entries than a ring may have
  pub entries_fit : (head : ℕ) (behind : List Place) (p : Place) → Reaches look covers l head behind p → l.num ≤ 32768 → p.table.entries ≤ 32768
  entries_fit head behind p e most = by_table p.table.indirect refl
    where
      by_table : (b : Bool) → p.table.indirect ≡ b → p.table.entries ≤ 32768
      by_table false h = let own = (short head behind p e).own h in let entries = own.0 in omega arith
      by_table true h = let inner = (short head behind p e).inner h in let entries = inner.0 in omega arith
