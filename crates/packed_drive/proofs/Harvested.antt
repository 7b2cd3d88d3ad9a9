-- A harvest, descriptor by descriptor.
use Rattle.std.proofs.Common.{◌≡◌, ℕ, suc, Bool, true, false, cond, List, [], ◌∷◌, ◌++◌, Option, None, Some, refl, ap, ◌∙◌, append_assoc}
use Rattle.std.proofs.lemmas.List.{append-nil}
use Rattle.guest_mem.specs.Memory.{Contents}
use Rattle.packed_drive.specs.Books.{Books, taken_back}
use Rattle.packed_drive.specs.Harvests.{Harvest, harvest_of, behind_found, used_desc, is_used, found_out}

module _ (n : ℕ) (m : Contents) (b : Books) where
  -- what a harvest makes of the look-up of a chain
  look_on : Option ℕ → Harvest
  look_on None = record { books = b; found = []; stray = Some (used_desc m b).id }
  look_on (Some count) = behind_found (((used_desc m b).id, (used_desc m b).len) ∷ []) (harvest_of n m (taken_back (used_desc m b).id count b))

  step : harvest_of (suc n) m b ≡ cond (is_used b.used.wrap (used_desc m b)) (look_on (found_out (used_desc m b).id b)) (record { books = b; found = []; stray = None })
  unfolding harvest_of look_on
  step = by_look (is_used b.used.wrap (used_desc m b)) (found_out (used_desc m b).id b)
    where
      by_look : (t : Bool) (r : Option ℕ) → cond t (elim r as (λ _. Harvest) [
        | None ↦ record { books = b; found = []; stray = Some (used_desc m b).id }
        | Some count ↦ behind_found (((used_desc m b).id, (used_desc m b).len) ∷ []) (harvest_of n m (taken_back (used_desc m b).id count b))
      ]) (record { books = b; found = []; stray = None }) ≡ cond t (look_on r) (record { books = b; found = []; stray = None })
      by_look t None = refl
      by_look t (Some count) = refl

  pub none_used : is_used b.used.wrap (used_desc m b) ≡ false → harvest_of (suc n) m b ≡ record { books = b; found = []; stray = None }
  none_used off = step ∙ ap (λ t. cond t (look_on (found_out (used_desc m b).id b)) (record { books = b; found = []; stray = None })) off

  on : is_used b.used.wrap (used_desc m b) ≡ true → harvest_of (suc n) m b ≡ look_on (found_out (used_desc m b).id b)
  on used = step ∙ ap (λ t. cond t (look_on (found_out (used_desc m b).id b)) (record { books = b; found = []; stray = None })) used

  pub stray_used : is_used b.used.wrap (used_desc m b) ≡ true → found_out (used_desc m b).id b ≡ None
      → harvest_of (suc n) m b ≡ record { books = b; found = []; stray = Some (used_desc m b).id }
  unfolding look_on
  stray_used used out = on used ∙ ap look_on out

  pub chain_used : (count : ℕ) → is_used b.used.wrap (used_desc m b) ≡ true → found_out (used_desc m b).id b ≡ Some count
      → harvest_of (suc n) m b ≡ behind_found (((used_desc m b).id, (used_desc m b).len) ∷ []) (harvest_of n m (taken_back (used_desc m b).id count b))
  unfolding look_on
  chain_used count used out = on used ∙ ap look_on out

-- one more was found
pub behind_more : (found : List (ℕ × ℕ)) (e : ℕ × ℕ) (h : Harvest) → behind_found (found ++ e ∷ []) h ≡ behind_found found (behind_found (e ∷ []) h)
behind_more found e h = ap (λ (fs : List (ℕ × ℕ)). record { books = h.books; found = fs; stray = h.stray }) (append_assoc found (e ∷ []) h.found)

-- the end
pub behind_end : (found : List (ℕ × ℕ)) (m : Contents) (b : Books) (s : Option ℕ)
    → behind_found found (record { books = b; found = []; stray = s }) ≡ record { books = b; found = found; stray = s }
behind_end found m b s = ap (λ (fs : List (ℕ × ℕ)). record { books = b; found = fs; stray = s }) (append-nil found)

pub none_left : (m : Contents) (b : Books) → harvest_of 0 m b ≡ record { books = b; found = []; stray = None }
unfolding harvest_of
none_left m b = refl
