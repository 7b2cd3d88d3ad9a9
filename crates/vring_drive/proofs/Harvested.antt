-- A harvest, entry by entry.
use Rattle.std.proofs.Common.{◌≡◌, ℕ, suc, Bool, true, false, ◌&&◌, cond, List, [], ◌∷◌, ◌++◌, Option, None, Some, refl, sym, ap, subst, ◌∙◌, append_assoc}
use Rattle.std.specs.Prelude.{is_none}
use Rattle.std.proofs.lemmas.List.{append-nil}
use Rattle.guest_mem.specs.Memory.{Contents, bytes_from}
use Rattle.vring_split.specs.Split.{used_entry_addr, used_event_addr, used_elem_of}
use Rattle.vring_split.specs.declared.layout.Layout.{Layout}
use Rattle.vring_split.specs.declared.used_elem.UsedElem.{UsedElem}
use Rattle.vring_drive.specs.Area.{layout_at, with_field}
use Rattle.vring_drive.specs.Books.{Books, ring_of, found_out, taken_back, IsSettledAs, ComesBack}
use Rattle.vring_drive.specs.Harvests.{Harvest, harvest_of, behind_found, used_entry, harvested, harvested_in}

-- what a harvest makes of the look-up of an entry's chain
unfoldable pub step : ℕ → Contents → Books → Option (List ℕ) → Harvest
step n m b None = record { books = b; found = []; stray = Some (used_entry m b).id }
step n m b (Some chain) =
    behind_found (((used_entry m b).id, (used_entry m b).len) ∷ []) (harvest_of n m (taken_back (used_entry m b).id chain b))

pub step_is : (n : ℕ) (m : Contents) (b : Books) → harvest_of (suc n) m b ≡ step n m b (found_out (used_entry m b).id b)
unfolding harvest_of step
step_is n m b = by_look (found_out (used_entry m b).id b)
  where
    by_look : (r : Option (List ℕ)) → elim r as (λ _. Harvest) [
      | None ↦ record { books = b; found = []; stray = Some (used_entry m b).id }
      | Some chain ↦ behind_found (((used_entry m b).id, (used_entry m b).len) ∷ []) (harvest_of n m (taken_back (used_entry m b).id chain b))
    ] ≡ step n m b r
    by_look None = refl
    by_look (Some chain) = refl

-- an entry whose chain is out was found
pub harvest_more : (found : List (ℕ × ℕ)) (n : ℕ) (m : Contents) (b : Books) (chain : List ℕ)
    → found_out (used_entry m b).id b ≡ Some chain
    → behind_found (found ++ ((used_entry m b).id, (used_entry m b).len) ∷ [])
    (harvest_of n m (taken_back (used_entry m b).id chain b))
    ≡ behind_found found (harvest_of (suc n) m b)
unfolding step
harvest_more found n m b chain e =
    let rest = harvest_of n m (taken_back (used_entry m b).id chain b) in
    let first : ℕ × ℕ = ((used_entry m b).id, (used_entry m b).len) in
    ap (λ (fs : List (ℕ × ℕ)). record { books = rest.books; found = fs; stray = rest.stray }) (append_assoc found (first ∷ []) rest.found)
    ∙ ap (behind_found found) (ap (step n m b) (sym e) ∙ sym (step_is n m b))

-- an entry whose chain isn't out ends it
pub harvest_stray : (n : ℕ) (m : Contents) (b : Books) → found_out (used_entry m b).id b ≡ None
    → harvest_of (suc n) m b ≡ record { books = b; found = []; stray = Some (used_entry m b).id }
unfolding step
harvest_stray n m b e = step_is n m b ∙ ap (step n m b) e

-- no entry is left
pub harvest_end : (found : List (ℕ × ℕ)) (m : Contents) (b : Books)
    → behind_found found (harvest_of 0 m b) ≡ record { books = b; found = found; stray = None }
unfolding harvest_of
harvest_end found m b = ap (λ (fs : List (ℕ × ℕ)). record { books = b; found = fs; stray = None }) (append-nil found)

-- one more entry
pub go_on : (found : List (ℕ × ℕ)) (n k : ℕ) (m : Contents) (b new : Books) (e : UsedElem)
    → k ≡ suc n → e ≡ used_entry m b → ComesBack e.id b true new
    → behind_found (found ++ (e.id, e.len) ∷ []) (harvest_of n m new) ≡ behind_found found (harvest_of k m b)
go_on found n k m b new e left is back =
    let out : found_out (used_entry m b).id b ≡ Some back.0 = subst (λ (x : UsedElem). found_out x.id b ≡ Some back.0) is back.1 in
    let more = harvest_more found n m b back.0 out in
    ap (λ (x : Books). behind_found (found ++ (e.id, e.len) ∷ []) (harvest_of n m x)) back.2
    ∙ ap (λ (x : UsedElem). behind_found (found ++ (x.id, x.len) ∷ []) (harvest_of n m (taken_back x.id back.0 b))) is
    ∙ more
    ∙ sym (ap (λ (i : ℕ). behind_found found (harvest_of i m b)) left)

-- a stray entry
pub stop_at : (found : List (ℕ × ℕ)) (n k : ℕ) (m : Contents) (b new : Books) (e : UsedElem) (h : Harvest)
    → k ≡ suc n → e ≡ used_entry m b → ComesBack e.id b false new → behind_found found (harvest_of k m b) ≡ h
    → (h.stray ≡ Some e.id) × (new ≡ h.books)
stop_at found n k m b new e h left is back whole =
    let missing : found_out (used_entry m b).id b ≡ None = subst (λ (x : UsedElem). found_out x.id b ≡ None) is back.0 in
    let last : harvest_of k m b ≡ record { books = b; found = []; stray = Some (used_entry m b).id } =
    ap (λ (i : ℕ). harvest_of i m b) left ∙ harvest_stray n m b missing in
    let all : h ≡ behind_found found (record { books = b; found = []; stray = Some (used_entry m b).id }) =
    sym whole ∙ ap (behind_found found) last in
    (ap (λ (x : Harvest). x.stray) all ∙ sym (ap (λ (x : UsedElem). Some x.id) is), back.1 ∙ sym (ap (λ (x : Harvest). x.books) all))

-- the end
pub end_with : (found : List (ℕ × ℕ)) (k : ℕ) (m : Contents) (b : Books) (h : Harvest)
    → k ≡ 0 → behind_found found (harvest_of k m b) ≡ h
    → (h.stray ≡ None) × (found ≡ h.found) × (b ≡ h.books)
end_with found k m b h left whole =
    let all : h ≡ record { books = b; found = found; stray = None } =
    sym whole ∙ ap (λ (i : ℕ). behind_found found (harvest_of i m b)) left ∙ harvest_end found m b in
    (ap (λ (x : Harvest). x.stray) all, sym (ap (λ (x : Harvest). x.found) all), sym (ap (λ (x : Harvest). x.books) all))

-- the same ring
pub same_ring : (old b : Books) → IsSettledAs old b → ring_of b ≡ ring_of old
same_ring old b s =
    ap (λ (x : ℕ). layout_at x b.num b.event false false) s.start
    ∙ ap (λ (x : ℕ). layout_at old.start x b.event false false) s.num
    ∙ ap (λ (x : Bool). layout_at old.start old.num x false false) s.event

-- the entry that was read is the one at the driver's place
pub entry_is : (m : Contents) (old b : Books) (ring : Layout) (addr used : ℕ) (e : UsedElem)
    → ring ≡ ring_of old → IsSettledAs old b → used ≡ b.used → addr ≡ used_entry_addr ring used
    → e ≡ used_elem_of (bytes_from m.bytes addr 8) → e ≡ used_entry m b
unfolding used_entry
entry_is m old b ring addr used e laid s place at read =
    read
    ∙ ap (λ (a : ℕ). used_elem_of (bytes_from m.bytes a 8))
    (at ∙ ap (used_entry_addr ring) place ∙ ap (λ (l : Layout). used_entry_addr l b.used) (laid ∙ sym (same_ring old b s)))

-- a choice by two tests
when_both : (p q : Bool) (x y : Contents) → p ≡ true → q ≡ true → cond (p && q) x y ≡ x
when_both p q x y hp hq = rw (hp, hq) refl

when_first : (p q : Bool) (x y : Contents) → p ≡ true → q ≡ false → cond (p && q) x y ≡ y
when_first p q x y hp hq = rw (hp, hq) refl

-- the memory after a stray entry, and after a whole harvest
pub memory_stray : (m : Contents) (b : Books) (id : ℕ) → (harvested m b).stray ≡ Some id → m ≡ harvested_in m b
memory_stray m b id e = rw e refl

pub memory_told : (m new : Contents) (b : Books) (used : ℕ) → (harvested m b).stray ≡ None → b.event ≡ true
    → used ≡ (harvested m b).books.used → new ≡ with_field (used_event_addr (ring_of b)) used m → new ≡ harvested_in m b
memory_told m new b used none event place is =
    let there : new ≡ with_field (used_event_addr (ring_of b)) (harvested m b).books.used m =
    is ∙ ap (λ (u : ℕ). with_field (used_event_addr (ring_of b)) u m) place in
    there ∙ sym (when_both _ _ _ _ (ap (λ (o : Option ℕ). is_none o) none) event)

pub memory_kept : (m : Contents) (b : Books) → (harvested m b).stray ≡ None → b.event ≡ false → m ≡ harvested_in m b
memory_kept m b none event = sym (when_first _ _ _ _ (ap (λ (o : Option ℕ). is_none o) none) event)
