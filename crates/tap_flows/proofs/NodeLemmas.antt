-- Lemmas about the flows that nodes keep.
use Rattle.std.proofs.Common.{◌≡◌, ◌≢◌, ℕ, ◌+◌, ◌-◌, ◌<◌, true, false, cond, eqb, ltb, zero, suc, List, [], ◌∷◌, length, set, Option, None, Some, is_some, sym, ap, subst, ◌∙◌, inl, inr, refl, arith}
use Rattle.std.specs.Ordering.{nat_cmp, eq_by_cmp}
use Rattle.std.specs.Cmp.{nat_cmp_total}
use Rattle.std.specs.FinMap.{get, insert, remove, len, get-empty, get-insert, get-remove, len-insert, len-remove, same_map, nat_cmp-IsAntisymmetric}
use Rattle.std.proofs.lemmas.Bool.{eq-eqb, ne_eqb, lt-ltb, le-ltb, cases_eq, cases_lt}
use Rattle.std.proofs.lemmas.List.{get_or-set_same, get_or-set_other, get_or_past}
use Rattle.tap_flows.specs.Flow.{Flow}
use Rattle.tap_flows.specs.Nodes.{flow_of, contents, kept_at, AreDistinct}
use Rattle.tap_flows.specs.declared.table.Entry.{Entry}

-- the flow of a hash, as a scan of the nodes finds it
pub look : List (Option Entry) → ℕ → Option Flow
look [] hash = None
look (None ∷ nodes) hash = look nodes hash
look (Some entry ∷ nodes) hash = cond (eq_by_cmp nat_cmp hash entry.hash) (Some (flow_of entry)) (look nodes hash)

pub get-contents : (nodes : List (Option Entry)) (hash : ℕ) → get (contents nodes) hash ≡ look nodes hash
unfolding look
get-contents [] hash = get-empty nat_cmp hash
get-contents (None ∷ nodes) hash = get-contents nodes hash
get-contents (Some entry ∷ nodes) hash = get-insert nat_cmp_total (contents nodes) entry.hash (flow_of entry) hash ∙ ap (cond (eq_by_cmp nat_cmp hash entry.hash) (Some (flow_of entry))) (get-contents nodes hash)

pub tied : (a b : ℕ) → a ≡ b → eq_by_cmp nat_cmp a b ≡ true
tied a b same = subst (λ z. eq_by_cmp nat_cmp a z ≡ true) same (let less : ltb a a ≡ false = le-ltb a a (omega arith) in let equal : eqb a a ≡ true = eq-eqb a a refl in simp (less, equal))

pub untied : (a b : ℕ) → a ≢ b → eq_by_cmp nat_cmp a b ≡ false
untied a b apart = elim (cases_lt a b) [
  | inl below ↦ let less : ltb a b ≡ true = lt-ltb a b below in simp less
  | inr above ↦ let less : ltb a b ≡ false = le-ltb a b above in let equal : eqb a b ≡ false = ne_eqb a b apart in simp (less, equal)
]

-- no flow of this hash
abbrev pub IsOther : ℕ → Option Entry → Type 0
IsOther hash kept = (entry : Entry) → kept ≡ Some entry → entry.hash ≢ hash

look_skip : (kept : Option Entry) (nodes : List (Option Entry)) (hash : ℕ) → IsOther hash kept → look (kept ∷ nodes) hash ≡ look nodes hash
unfolding look
look_skip None nodes hash other = refl
look_skip (Some entry) nodes hash other = ap (λ b. cond b (Some (flow_of entry)) (look nodes hash)) (untied hash entry.hash (λ e. other entry refl (sym e)))

-- a node that never keeps a hash doesn't matter to it
look-set : (nodes : List (Option Entry)) (n : ℕ) (kept : Option Entry) (hash : ℕ) → IsOther hash kept → IsOther hash (kept_at nodes n) → look (set nodes n kept) hash ≡ look nodes hash
unfolding look
look-set [] n kept hash new old = refl
look-set (first ∷ nodes) zero kept hash new old = look_skip kept nodes hash new ∙ sym (look_skip first nodes hash old)
look-set (None ∷ nodes) (suc n) kept hash new old = look-set nodes n kept hash new old
look-set (Some entry ∷ nodes) (suc n) kept hash new old = ap (cond (eq_by_cmp nat_cmp hash entry.hash) (Some (flow_of entry))) (look-set nodes n kept hash new old)

-- the only node that keeps a hash has its flow
look_at : (nodes : List (Option Entry)) (n : ℕ) (entry : Entry) → kept_at nodes n ≡ Some entry → ((m : ℕ) (other : Entry) → kept_at nodes m ≡ Some other → other.hash ≡ entry.hash → m ≡ n) → look nodes entry.hash ≡ Some (flow_of entry)
unfolding look
look_at [] n entry kept only = cc
look_at (first ∷ nodes) zero entry kept only =
    subst (λ o. look (o ∷ nodes) entry.hash ≡ Some (flow_of entry)) (sym kept) (ap (λ b. cond b (Some (flow_of entry)) (look nodes entry.hash)) (tied entry.hash entry.hash refl))
look_at (first ∷ nodes) (suc n) entry kept only =
    look_skip first nodes entry.hash (λ other is same. absurd (let clash : 0 ≡ suc n = only 0 other is same in omega arith))
    ∙ look_at nodes n entry kept (λ m other is same. let shifted : suc m ≡ suc n = only (suc m) other is same in omega arith)

look_none : (nodes : List (Option Entry)) (hash : ℕ) → ((m : ℕ) → IsOther hash (kept_at nodes m)) → look nodes hash ≡ None
unfolding look
look_none [] hash none = refl
look_none (first ∷ nodes) hash none = look_skip first nodes hash (none 0) ∙ look_none nodes hash (λ m. none (suc m))

-- where a scan finds a flow
look_is : (nodes : List (Option Entry)) (hash : ℕ) (flow : Flow) → look nodes hash ≡ Some flow → (m : ℕ) × (entry : Entry) × (kept_at nodes m ≡ Some entry) × (entry.hash ≡ hash) × (flow_of entry ≡ flow)
unfolding look
look_is [] hash flow found = cc
look_is (None ∷ nodes) hash flow found = let at = look_is nodes hash flow found in (suc at.0, at.1, at.2, at.3, at.4)
look_is (Some entry ∷ nodes) hash flow found = elim (cases_eq hash entry.hash) [
  | inl same ↦
      let here : ◌≡◌ {A = Option Flow} (Some (flow_of entry)) (Some flow) = sym (ap (λ b. cond b (Some (flow_of entry)) (look nodes hash)) (tied hash entry.hash same)) ∙ found in
      (0, entry, refl, sym same, cc)
  | inr apart ↦
      let at = look_is nodes hash flow (sym (ap (λ b. cond b (Some (flow_of entry)) (look nodes hash)) (untied hash entry.hash apart)) ∙ found) in
      (suc at.0, at.1, at.2, at.3, at.4)
]

-- a node that keeps a flow is within the nodes
pub kept_within : (nodes : List (Option Entry)) (n : ℕ) (entry : Entry) → kept_at nodes n ≡ Some entry → n < length nodes
kept_within nodes n entry kept = elim (cases_lt n (length nodes)) [
  | inl within ↦ within
  | inr past ↦ let none : kept_at nodes n ≡ None = get_or_past nodes n None past in absurd cc
]

pub kept_set_same : (nodes : List (Option Entry)) (n : ℕ) (kept : Option Entry) → n < length nodes → kept_at (set nodes n kept) n ≡ kept
kept_set_same nodes n kept within = get_or-set_same nodes n kept None within

pub kept_set_other : (nodes : List (Option Entry)) (n m : ℕ) (kept : Option Entry) → m ≢ n → kept_at (set nodes n kept) m ≡ kept_at nodes m
kept_set_other nodes n m kept apart = get_or-set_other nodes n m kept None apart

-- nodes stay distinct without one
pub distinct_without : (nodes : List (Option Entry)) (n : ℕ) → n < length nodes → AreDistinct nodes → AreDistinct (set nodes n None)
distinct_without nodes n within distinct i j a b at_i at_j same =
    let gone : kept_at (set nodes n None) n ≡ None = kept_set_same nodes n None within in
    let not_i : i ≢ n = λ e. let is : kept_at (set nodes n None) i ≡ kept_at (set nodes n None) n = ap (kept_at (set nodes n None)) e in cc in
    let not_j : j ≢ n = λ e. let is : kept_at (set nodes n None) j ≡ kept_at (set nodes n None) n = ap (kept_at (set nodes n None)) e in cc in
    distinct i j a b (sym (kept_set_other nodes n i None not_i) ∙ at_i) (sym (kept_set_other nodes n j None not_j) ∙ at_j) same

-- the only node of a hash
abbrev pub IsOnly : List (Option Entry) → ℕ → ℕ → Type 0
IsOnly nodes n hash = (m : ℕ) (other : Entry) → kept_at nodes m ≡ Some other → other.hash ≡ hash → m ≡ n

-- and with one whose hash no other has
pub distinct_with : (nodes : List (Option Entry)) (n : ℕ) (entry : Entry) → n < length nodes → AreDistinct nodes → IsOnly nodes n entry.hash → AreDistinct (set nodes n (Some entry))
distinct_with nodes n entry within distinct only i j a b at_i at_j same =
    let here : kept_at (set nodes n (Some entry)) n ≡ Some entry = kept_set_same nodes n (Some entry) within in
    elim (cases_eq i n) [
      | inl is_i ↦ elim (cases_eq j n) [
        | inl is_j ↦ is_i ∙ sym is_j
        | inr not_j ↦
            let at_n : kept_at (set nodes n (Some entry)) i ≡ Some entry = ap (kept_at (set nodes n (Some entry))) is_i ∙ here in
            let a_is : a ≡ entry = cc in
            is_i ∙ sym (only j b (sym (kept_set_other nodes n j (Some entry) not_j) ∙ at_j) (sym same ∙ ap (λ (e : Entry). e.hash) a_is))
      ]
      | inr not_i ↦ elim (cases_eq j n) [
        | inl is_j ↦
            let at_n : kept_at (set nodes n (Some entry)) j ≡ Some entry = ap (kept_at (set nodes n (Some entry))) is_j ∙ here in
            let b_is : b ≡ entry = cc in
            only i a (sym (kept_set_other nodes n i (Some entry) not_i) ∙ at_i) (same ∙ ap (λ (e : Entry). e.hash) b_is) ∙ sym is_j
        | inr not_j ↦ distinct i j a b (sym (kept_set_other nodes n i (Some entry) not_i) ∙ at_i) (sym (kept_set_other nodes n j (Some entry) not_j) ∙ at_j) same
      ]
    ]

-- a flow is found at its node
pub get_at : (nodes : List (Option Entry)) (n : ℕ) (entry : Entry) → AreDistinct nodes → kept_at nodes n ≡ Some entry → get (contents nodes) entry.hash ≡ Some (flow_of entry)
get_at nodes n entry distinct kept = get-contents nodes entry.hash ∙ look_at nodes n entry kept (λ m other is same. distinct m n other entry is kept same)

-- and where no node has it, it isn't there
pub get_none : (nodes : List (Option Entry)) (hash : ℕ) → ((m : ℕ) → IsOther hash (kept_at nodes m)) → get (contents nodes) hash ≡ None
get_none nodes hash none = get-contents nodes hash ∙ look_none nodes hash none

-- where a flow is kept that the contents have
pub node_of : (nodes : List (Option Entry)) (hash : ℕ) (flow : Flow) → get (contents nodes) hash ≡ Some flow → (m : ℕ) × (entry : Entry) × (kept_at nodes m ≡ Some entry) × (entry.hash ≡ hash) × (flow_of entry ≡ flow)
node_of nodes hash flow found = look_is nodes hash flow (sym (get-contents nodes hash) ∙ found)

-- a flow that is put at a node, where nothing or its own flow was before
pub contents_put : (nodes : List (Option Entry)) (n : ℕ) (entry : Entry) → n < length nodes → AreDistinct nodes → IsOnly nodes n entry.hash → ((hash : ℕ) → hash ≢ entry.hash → IsOther hash (kept_at nodes n)) → contents (set nodes n (Some entry)) ≡ insert (contents nodes) entry.hash (flow_of entry)
contents_put nodes n entry within distinct only own =
    let put : List (Option Entry) = set nodes n (Some entry) in
    same_map nat_cmp_total nat_cmp-IsAntisymmetric (contents (set nodes n (Some entry))) (insert (contents nodes) entry.hash (flow_of entry)) (λ hash. elim (cases_eq hash entry.hash) [
      | inl same ↦
          ap (get (contents (set nodes n (Some entry)))) same
          ∙ get_at (set nodes n (Some entry)) n entry (distinct_with nodes n entry within distinct only) (kept_set_same nodes n (Some entry) within)
          ∙ sym (get-insert nat_cmp_total (contents nodes) entry.hash (flow_of entry) hash ∙ ap (λ b. cond b (Some (flow_of entry)) (get (contents nodes) hash)) (tied hash entry.hash same))
      | inr apart ↦
          get-contents (set nodes n (Some entry)) hash
          ∙ look-set nodes n (Some entry) hash (λ other is same. let other_is : other ≡ entry = cc in apart (sym same ∙ ap (λ (e : Entry). e.hash) other_is)) (own hash apart)
          ∙ sym (get-contents nodes hash)
          ∙ sym (get-insert nat_cmp_total (contents nodes) entry.hash (flow_of entry) hash ∙ ap (λ b. cond b (Some (flow_of entry)) (get (contents nodes) hash)) (untied hash entry.hash apart))
    ])

-- a flow that is taken from its node
pub contents_take : (nodes : List (Option Entry)) (n : ℕ) (entry : Entry) → AreDistinct nodes → kept_at nodes n ≡ Some entry → contents (set nodes n None) ≡ remove (contents nodes) entry.hash
contents_take nodes n entry distinct kept =
    let within = kept_within nodes n entry kept in
    same_map nat_cmp_total nat_cmp-IsAntisymmetric (contents (set nodes n None)) (remove (contents nodes) entry.hash) (λ hash. elim (cases_eq hash entry.hash) [
      | inl same ↦
          get_none (set nodes n None) hash (λ m other is same'. elim (cases_eq m n) [
            | inl e ↦ let none : kept_at (set nodes n None) m ≡ None = ap (kept_at (set nodes n None)) e ∙ kept_set_same nodes n None within in cc
            | inr away ↦ away (distinct m n other entry (sym (kept_set_other nodes n m None away) ∙ is) kept (same' ∙ same))
          ])
          ∙ sym (get-remove nat_cmp_total (contents nodes) entry.hash hash ∙ ap (λ b. cond b None (get (contents nodes) hash)) (tied hash entry.hash same))
      | inr apart ↦
          get-contents (set nodes n None) hash
          ∙ look-set nodes n None hash (λ other is same. cc) (λ other is same. let other_is : other ≡ entry = cc in apart (sym same ∙ ap (λ (e : Entry). e.hash) other_is))
          ∙ sym (get-contents nodes hash)
          ∙ sym (get-remove nat_cmp_total (contents nodes) entry.hash hash ∙ ap (λ b. cond b None (get (contents nodes) hash)) (untied hash entry.hash apart))
    ])

-- how many flows there are afterwards
pub len_put_new : (nodes : List (Option Entry)) (hash : ℕ) (flow : Flow) → get (contents nodes) hash ≡ None → len (insert (contents nodes) hash flow) ≡ len (contents nodes) + 1
len_put_new nodes hash flow none = len-insert nat_cmp_total (contents nodes) hash flow ∙ ap (λ o. cond (is_some o) (len (contents nodes)) (len (contents nodes) + 1)) none

pub len_put_old : (nodes : List (Option Entry)) (hash : ℕ) (flow old : Flow) → get (contents nodes) hash ≡ Some old → len (insert (contents nodes) hash flow) ≡ len (contents nodes)
len_put_old nodes hash flow old some = len-insert nat_cmp_total (contents nodes) hash flow ∙ ap (λ o. cond (is_some o) (len (contents nodes)) (len (contents nodes) + 1)) some

pub len_take : (nodes : List (Option Entry)) (hash : ℕ) (old : Flow) → get (contents nodes) hash ≡ Some old → len (remove (contents nodes) hash) ≡ len (contents nodes) - 1
len_take nodes hash old some = len-remove nat_cmp_total (contents nodes) hash ∙ ap (λ o. cond (is_some o) (len (contents nodes) - 1) (len (contents nodes))) some
