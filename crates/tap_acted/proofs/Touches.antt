-- A poke or a peek is one act.
use Rattle.std.proofs.Common.{◌≡◌, ℕ, List, true, Some, ⊎_elim, refl, sym, ap, ◌∙◌, subst}
use Rattle.std.specs.Prelude.{◌==◌, length}
use Rattle.std.proofs.lemmas.Bool.Decides.{eqb_tells}
use Rattle.guest_mem.specs.Memory.{Contents, first_bad}
use Rattle.scen_words.specs.declared.command.Command.TheVariants as command
use Rattle.tap_trace.specs.declared.kind.Kind.TheVariants as kind
use Rattle.tap_ground.specs.Options.{◌>>=◌, only_if}
use Rattle.tap_world.specs.ByNumber.{at}
use Rattle.tap_world.specs.Effect.{Effect, only}
use Rattle.tap_world.specs.Effect.OnGuests.{OnGuest}
use Rattle.tap_world.specs.Effect.Onward.{Ends}
use Rattle.tap_world.specs.Guests.{Guest}
use Rattle.tap_world.specs.StepControl.{peeked, poke_leaves, poke_told, poked, pokes}
use Rattle.tap_world.specs.World.{World}
use Rattle.tap_sights.specs.Acts.{Done, State, done_as}
use Rattle.tap_sights.specs.Acts.What.{OnBytes}
use Rattle.tap_sound.proofs.Kit.{some_same, then_some}
use Rattle.tap_acted.specs.Laws.{BytesAreActs, DoesAs}

pub same_number : (n : ℕ) → (n == n) ≡ true
same_number n = ⊎_elim (λ t. t.0) (λ t. absurd (t.1 refl)) (eqb_tells n n)

abbrev poke_row : World → ℕ → ℕ → ℕ → List ℕ → Contents → Effect
poke_row w seen guest addr bytes m = poked w seen guest addr bytes m (first_bad m.regions addr (length bytes))

abbrev peek_row : World → ℕ → ℕ → ℕ → ℕ → Contents → Effect
peek_row w seen guest addr len m =
    record (only (Ends seen (peeked addr len m (first_bad m.regions addr len))) w) { guests = OnGuest guest m (Some kind.Peek) }

abbrev poke_done : ℕ → List ℕ → State → Done
poke_done addr bytes st =
    done_as (record st { memory = poke_leaves st.memory addr bytes (first_bad st.memory.regions addr (length bytes)) })
    (Some kind.Poke) (Some (poke_told (first_bad st.memory.regions addr (length bytes))))

abbrev peek_done : ℕ → ℕ → State → Done
peek_done addr len st =
    done_as st (Some kind.Peek) (Some (peeked addr len st.memory (first_bad st.memory.regions addr len)))

-- the row of a guest that is there
row_there : (w : World) (guest : ℕ) (g : Guest) (m : Contents) (row : Contents → Effect) (r : Effect) → at w.guests guest ≡ Some g
    → m ≡ g.memory → (at w.guests guest >>= (λ (x : Guest). Some (row x.memory))) ≡ Some r → row m ≡ r
row_there w guest g m row r is same e =
    let t = then_some (at w.guests guest) (λ (x : Guest). Some (row x.memory)) r e in
    let one : t.0 ≡ g = some_same t.0 g (sym t.1 ∙ is) in
    ap row (same ∙ ap (λ (x : Guest). x.memory) (sym one)) ∙ some_same (row t.0.memory) r t.2

pub bytes_act : BytesAreActs
bytes_act c w guest g st t (command.Poke n addr bytes) seen r is same on e =
    let it : n ≡ guest = some_same n guest on in
    let row : pokes w seen (command.Poke guest addr bytes) ≡ Some r =
    subst (λ (q : ℕ). pokes w seen (command.Poke q addr bytes) ≡ Some r) it e in
    subst (λ (q : ℕ). DoesAs c guest (record { told = t; command = command.Poke q addr bytes; what = OnBytes }) st r) (sym it)
    (subst (DoesAs c guest (record { told = t; command = command.Poke guest addr bytes; what = OnBytes }) st)
    (row_there w guest g st.memory (poke_row w seen guest addr bytes) r is same row)
    (record {
      done = poke_done addr bytes st;
      does = ap (λ b. only_if b (poke_done addr bytes st)) (same_number guest);
      guests = refl;
      no_vhost = refl;
      vhosts = refl;
      under = refl;
      seen = seen;
      said = poke_told (first_bad st.memory.regions addr (length bytes));
      ends = refl;
      answer = refl;
    }))
bytes_act c w guest g st t (command.Peek n addr len) seen r is same on e =
    let it : n ≡ guest = some_same n guest on in
    let row : pokes w seen (command.Peek guest addr len) ≡ Some r =
    subst (λ (q : ℕ). pokes w seen (command.Peek q addr len) ≡ Some r) it e in
    subst (λ (q : ℕ). DoesAs c guest (record { told = t; command = command.Peek q addr len; what = OnBytes }) st r) (sym it)
    (subst (DoesAs c guest (record { told = t; command = command.Peek guest addr len; what = OnBytes }) st)
    (row_there w guest g st.memory (peek_row w seen guest addr len) r is same row)
    (record {
      done = peek_done addr len st;
      does = ap (λ b. only_if b (peek_done addr len st)) (same_number guest);
      guests = refl;
      no_vhost = refl;
      vhosts = refl;
      under = refl;
      seen = seen;
      said = peeked addr len st.memory (first_bad st.memory.regions addr len);
      ends = refl;
      answer = refl;
    }))
bytes_act c w guest g st t k seen r is same on e = absurd (cc (e))
