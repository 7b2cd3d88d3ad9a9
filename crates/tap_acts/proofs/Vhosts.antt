-- Vhosts of a replay beside those of the acts: the same but for who holds their turns.
use Rattle.std.proofs.Common.{◌≡◌, ◌≢◌, ◌⊎◌, ℕ, zero, suc, List, [], ◌∷◌, Option, Some, None, Bool, true, false, refl, sym, ap, ◌∙◌, subst, inl, inr, ⊎_elim, cond}
use Rattle.std.specs.Prelude.{◌==◌, ◌&&◌, ◌||◌, not, find, is_none, if◌then◌else◌, option_map}
use Rattle.std.specs.Option.{option_map_or}
use Rattle.std.proofs.lemmas.Bool.{cases_eq}
use Rattle.tap_world.specs.ByNumber.{at, with_at}
use Rattle.tap_world.specs.Guests.{Vhost, is_free_for, is_ring, turn_of}
use Rattle.tap_legal.specs.Replay.{Under}
use Rattle.tap_legal.specs.ReplayTurns.{is_under_on}
use Rattle.tap_sights.specs.Acts.{Act, Done}
use Rattle.tap_acts.specs.Replaying.{SameUnder, holder_on, is_turn_of, is_turned, settled, gone_on}

-- ---- by number

pub at_with : {A : Type 0} (n : ℕ) (new old : A) (xs : List (Option A)) → at xs n ≡ Some old → at (with_at n new xs) n ≡ Some new
at_with n new old [] e = absurd (cc (e))
at_with zero new old (y ∷ ys) e = refl
at_with (suc n) new old (y ∷ ys) e = at_with n new old ys e

pub at_else : {A : Type 0} (n : ℕ) (new : A) (xs : List (Option A)) (k : ℕ) → n ≢ k → at (with_at n new xs) k ≡ at xs k
at_else n new [] k ne = refl
at_else zero new (y ∷ ys) zero ne = absurd (ne refl)
at_else zero new (y ∷ ys) (suc k) ne = refl
at_else (suc n) new (y ∷ ys) zero ne = refl
at_else (suc n) new (y ∷ ys) (suc k) ne = at_else n new ys k (λ h. ne (ap suc h))

-- what has a number stays the image of what has it, where both change
pub both_with : {A : Type 0} (f : ℕ → A → A) (xs ys : List (Option A)) → ((n : ℕ) → at ys n ≡ option_map (f n) (at xs n))
    → (k : ℕ) (new old : A) → at xs k ≡ Some old
    → (n : ℕ) → at (with_at k (f k new) ys) n ≡ option_map (f n) (at (with_at k new xs) n)
both_with f xs ys each k new old e n = ⊎_elim
    (λ same. subst (λ m. at (with_at k (f k new) ys) m ≡ option_map (f m) (at (with_at k new xs) m)) same
    (at_with k (f k new) (f k old) ys (each k ∙ ap (option_map (f k)) e) ∙ sym (ap (option_map (f k)) (at_with k new old xs e))))
    (λ ne. at_else k (f k new) ys n ne ∙ each n ∙ sym (ap (option_map (f n)) (at_else k new xs n ne)))
    (cases_eq k n)

-- a fact of each other one stays, and it holds of the new one
pub each_with : {A : Type 0} (P : ℕ → A → Type 0) (xs : List (Option A)) (k : ℕ) (new old : A)
    → ((n : ℕ) (x : A) → k ≢ n → at xs n ≡ Some x → P n x) → at xs k ≡ Some old → P k new → (n : ℕ) (x : A) → at (with_at k new xs) n ≡ Some x → P n x
each_with P xs k new old each e p n x h = ⊎_elim
    (λ same. subst (λ m. P m x) same (subst (P k) (here (at_with k new old xs e) (subst (λ m. at (with_at k new xs) m ≡ Some x) (sym same) h)) p))
    (λ ne. each n x ne (sym (at_else k new xs n ne) ∙ h))
    (cases_eq k n)
  where
    here : {B : Type 0} {o : Option B} {a b : B} → o ≡ Some a → o ≡ Some b → a ≡ b
    here p q = cc (p, q)

-- the same one in its place changes nothing
pub with_same : {A : Type 0} (k : ℕ) (new old : A) (xs : List (Option A)) → at xs k ≡ Some old → new ≡ old
    → (n : ℕ) → at (with_at k new xs) n ≡ at xs n
with_same k new old xs e same n = ⊎_elim
    (λ here. subst (λ m. at (with_at k new xs) m ≡ at xs m) here (at_with k new old xs e ∙ ap Some same ∙ sym e))
    (λ ne. at_else k new xs n ne)
    (cases_eq k n)

-- ---- turns

pub settled_none : (vhost ring : ℕ) (ds : List (Act × Done)) → settled vhost ring ds None ≡ None
settled_none vhost ring [] = refl
settled_none vhost ring (d ∷ ds) = refl

pub settled_skip : (vhost ring : ℕ) (d : Act × Done) (ds : List (Act × Done)) (now : Option Under) → is_turned d.0.what ≡ false
    → settled vhost ring (d ∷ ds) now ≡ settled vhost ring ds now
settled_skip vhost ring d ds None e = sym (settled_none vhost ring ds)
settled_skip vhost ring d ds (Some u) e =
    ap (λ (b : Bool). if b && d.0.told.command == u.command
    then (if is_none d.1.step
    then settled vhost ring ds (gone_on u (find (is_under_on vhost ring) d.1.state.under))
    else Some u)
    else settled vhost ring ds (Some u)) e

-- a turn is held by nobody, or by whom it was
abbrev pub Freer : Option ℕ → Option ℕ → Type 0
Freer old new = (new ≡ None) ⊎ (new ≡ old)

abbrev command_in : Option Under → Option ℕ
command_in o = option_map (λ (u : Under). u.command) o

settled_freer : (vhost ring : ℕ) (ds : List (Act × Done)) (now : Option Under)
    → Freer (command_in now) (command_in (settled vhost ring ds now))
settled_freer vhost ring [] now = inr refl
settled_freer vhost ring (d ∷ ds) None = inl refl
settled_freer vhost ring (d ∷ ds) (Some u) =
    go (is_turn_of u.command d) (is_none d.1.step) (settled_freer vhost ring ds (gone_on u (find (is_under_on vhost ring) d.1.state.under)))
    (settled_freer vhost ring ds (Some u))
  where
    gone : (o : Option Under) → Freer (command_in (gone_on u o)) (command_in (settled vhost ring ds (gone_on u o)))
        → Freer (Some u.command) (command_in (settled vhost ring ds (gone_on u o)))
    gone None h = inl (ap command_in (settled_none vhost ring ds))
    gone (Some w) h = h

    go : (b e : Bool)
        → Freer (command_in (gone_on u (find (is_under_on vhost ring) d.1.state.under)))
        (command_in (settled vhost ring ds (gone_on u (find (is_under_on vhost ring) d.1.state.under))))
        → Freer (Some u.command) (command_in (settled vhost ring ds (Some u)))
        → Freer (Some u.command) (command_in (cond b (cond e (settled vhost ring ds (gone_on u (find (is_under_on vhost ring) d.1.state.under))) (Some u)) (settled vhost ring ds (Some u))))
    go true true more still = gone (find (is_under_on vhost ring) d.1.state.under) more
    go true false more still = inr refl
    go false e more still = still

same_command : (o p : Option Under) → SameUnder o p → command_in o ≡ command_in p
same_command None None h = refl
same_command (Some u) (Some v) h = ap Some h.1
same_command None (Some v) h = absurd h
same_command (Some u) None h = absurd h

pub holder_freer : (vhost ring : ℕ) (ds : List (Act × Done)) (us vs : List Under)
    → SameUnder (settled vhost ring ds (find (is_under_on vhost ring) us)) (find (is_under_on vhost ring) vs)
    → Freer (holder_on vhost ring us) (holder_on vhost ring vs)
holder_freer vhost ring ds us vs h =
    subst (Freer (holder_on vhost ring us)) (same_command _ _ h) (settled_freer vhost ring ds (find (is_under_on vhost ring) us))

pub free_stays : (actor ring : ℕ) (v w : Vhost) → Freer (turn_of ring v) (turn_of ring w) → is_free_for actor ring v ≡ true
    → is_free_for actor ring w ≡ true
free_stays actor ring v w (inl none) e = rw (none) (or_true (not (is_ring ring)))
  where
    or_true : (b : Bool) → (b || true) ≡ true
    or_true true = refl
    or_true false = refl
free_stays actor ring v w (inr same) e =
    ap (λ (o : Option ℕ). not (is_ring ring) || option_map_or (λ a. a == actor) o true) same ∙ e

pub none_stays : (old new : Option ℕ) → Freer old new → is_none old ≡ true → is_none new ≡ true
none_stays old new (inl none) e = ap (λ (o : Option ℕ). is_none o) none
none_stays old new (inr same) e = ap (λ (o : Option ℕ). is_none o) same ∙ e

-- the holders of both rings of a vhost, by the ring
pub turn_freer : (ring : ℕ) (v w : Vhost) → Freer v.rx_turn w.rx_turn → Freer v.tx_turn w.tx_turn → Freer (turn_of ring v) (turn_of ring w)
turn_freer ring v w rx tx = go (ring == 0)
  where
    go : (b : Bool) → Freer (cond b v.rx_turn v.tx_turn) (cond b w.rx_turn w.tx_turn)
    go true = rx
    go false = tx
