-- What the sights of a trace say of places: those that answers put frames into, and those that commands took them from.
use Rattle.std.proofs.Common.{◌≡◌, ℕ, ◌≤◌, ◌<◌, cond, List, [], ◌∷◌, ◌++◌, Option, Some, None, Bool, true, false, refl, sym, ap, ◌∙◌, subst, inl, inr, ⊎_elim, true≢false}
use Rattle.std.specs.Prelude.{◌==◌, ◌&&◌, not, nat_lt, nat_le, option_to_list}
use Rattle.std.specs.Option.{option_map_or}
use Rattle.std.proofs.lemmas.Bool.{and_parts, eqb-true, lt-leb, le-ltb}
use Rattle.tap_frame.specs.declared.name.Name.{Name}
use Rattle.tap_ledger.specs.declared.fate.Fate.{Fate}
use Rattle.tap_ledger.specs.declared.fate.Fate.TheVariants as fate
use Rattle.tap_ledger.specs.declared.fate.Cause.TheVariants as cause
use Rattle.scen_words.specs.declared.command.Command.{Command}
use Rattle.scen_words.specs.declared.command.Command.TheVariants as command
use Rattle.tap_trace.specs.declared.answer.Answer.{Answer}
use Rattle.tap_trace.specs.declared.answer.Answer.TheVariants as answer
use Rattle.tap_ground.specs.Options.{◌>>=◌, only_if}
use Rattle.tap_legal.specs.Numbered.{AnswerAt, EntryAt, StepAt, Told}
use Rattle.tap_legal.specs.Case.{Case}
use Rattle.tap_world.specs.Stands.{same_name}
use Rattle.tap_legal.specs.Lookups.{ending_of, file_read, is_above_before, is_at_most_later, is_before, is_later_of_actor, place_read, placed_in, put_in, taken_from, told_of}
use Rattle.tap_legal.specs.Takes.{copied, copiers, copies_of, has_guest, purgers, readers, was_purged, was_read}
use Rattle.tap_sights.specs.Sight.{In, Seen}
use Rattle.tap_sights.specs.Tells.{IsTaken, Tells, TellsRead, TellsRing}
use Rattle.tap_sights.specs.LineFacts.{IsLeft, IsTold, TellsFate}
use Rattle.tap_sights.specs.Sights.{Sighted}
use Rattle.tap_sights.proofs.Kit.{in_append, in_filter, in_filter_map, in_map, none_any, some_same}
use Rattle.tap_sights.proofs.Orders.{one_answer, same_asker, told_answer, told_is}

pub only_some : {A : Type 0} (b : Bool) (x y : A) → only_if b x ≡ Some y → (b ≡ true) × (x ≡ y)
only_some true x y e = (refl, some_same x y e)
only_some false x y e = absurd (cc (e))

pub cond_some : {A : Type 0} (b : Bool) (o : Option A) (y : A) → cond b o None ≡ Some y → (b ≡ true) × (o ≡ Some y)
cond_some true o y e = (refl, e)
cond_some false o y e = absurd (cc (e))

-- ---- places before and after a command

pub above_all : (place : AnswerAt → Option ℕ) (t : Told) (n : ℕ) (as_ : List AnswerAt)
    → ((a : AnswerAt) → In a as_ → is_before a.told t ≡ true → (p : ℕ) → place a ≡ Some p → p < n) → is_above_before place t n as_ ≡ true
above_all place t n as_ each = ap not (none_any _ as_ (λ a i. one (is_before a.told t) (place a) (each a i)))
  where
    one : (b : Bool) (o : Option ℕ) → (b ≡ true → (p : ℕ) → o ≡ Some p → p < n) → (b && option_map_or (λ p. nat_le n p) o false) ≡ false
    one false o h = refl
    one true None h = refl
    one true (Some p) h = lt-leb n p (h refl p refl)

pub later_all : (place : AnswerAt → Option ℕ) (t : Told) (n : ℕ) (as_ : List AnswerAt)
    → ((a : AnswerAt) → In a as_ → is_later_of_actor t a.told ≡ true → (p : ℕ) → place a ≡ Some p → n ≤ p) → is_at_most_later place t n as_ ≡ true
later_all place t n as_ each = ap not (none_any _ as_ (λ a i. one (is_later_of_actor t a.told) (place a) (each a i)))
  where
    one : (b : Bool) (o : Option ℕ) → (b ≡ true → (p : ℕ) → o ≡ Some p → n ≤ p) → (b && option_map_or (λ p. nat_lt p n) o false) ≡ false
    one false o h = refl
    one true None h = refl
    one true (Some p) h = le-ltb p n (h refl p refl)

-- a command took what stands at a place
pub record Took (c : Case) (s : Seen) (t : Told) (file place : ℕ) : Type 0 where
  pub told : IsTold c t
  pub from : (s.before t).out file ≤ place
  pub to : place < (s.after t).out file

module _ (c : Case) (s : Sighted c) where
  -- an answer that put a frame into a place
  pub put_tells : (a : AnswerAt) → In a c.answers → (file p : ℕ) → put_in file a ≡ Some p
      → ((s.seen.before a.told).put file ≤ p) × (p < (s.seen.after a.told).put file)
  put_tells a i file p e = go a.answer (s.rings a i) e
    where
      go : (x : Answer) → TellsRing c s.seen a x → placed_in file x ≡ Some p
          → ((s.seen.before a.told).put file ≤ p) × (p < (s.seen.after a.told).put file)
      go (answer.Placed other place epoch len) h is =
          let w = only_some (other == file) place p is in
          let same = eqb-true other file w.0 in
          subst (λ n. ((s.seen.before a.told).put n ≤ p) × (p < (s.seen.after a.told).put n)) same
          (subst (λ q. ((s.seen.before a.told).put other ≤ q) × (q < (s.seen.after a.told).put other)) w.1 (h.from, h.to))
      go x h is = absurd (cc (is))

  pub left_took : (e : EntryAt) (t : Told) (file place : ℕ) → IsTold c t → IsLeft s.seen e → s.seen.taker e ≡ t → e.file ≡ file → e.at.place ≡ place
      → Took c s.seen t file place
  left_took e t file place told left by on at =
      let from = subst (λ u. (s.seen.before u).out e.file ≤ e.at.place) by left.from in
      let to = subst (λ u. e.at.place < (s.seen.after u).out e.file) by left.to in
      record {
        told = told;
        from = subst (λ n. (s.seen.before t).out n ≤ place) on (subst (λ q. (s.seen.before t).out e.file ≤ q) at from);
        to = subst (λ n. place < (s.seen.after t).out n) on (subst (λ q. q < (s.seen.after t).out e.file) at to);
      }

  -- an entry that was read, or copied to a guest
  pub read_left : (e : EntryAt) (f : Fate) → TellsFate c s.seen e f → was_read f ≡ true → IsLeft s.seen e
  read_left e fate.Read h is = h.left
  read_left e f h is = absurd (cc (is))

  copied_left : (e : EntryAt) (f : Fate) → TellsFate c s.seen e f → has_guest f ≡ true → IsLeft s.seen e
  copied_left e fate.Guest h is = h.left
  copied_left e f h is = absurd (cc (is))

  pub read_took : (a : AnswerAt) → In a c.answers → (file p : ℕ) → taken_from file a ≡ Some p → Took c s.seen a.told file p
  read_took a i file p e = go a.asked (s.tells a i) e
    where
      taken : (other place : ℕ) (name : Name) → IsTaken c s.seen a other place name → other ≡ file → place ≡ p → Took c s.seen a.told file p
      taken other place name t same at =
          left_took t.entry a.told file p (told_answer c s.shape a i)
          (read_left t.entry t.entry.at.fate (s.lines.each t.entry t.there).fate t.fate) t.by (t.on ∙ same) (t.at ∙ at)

      told : (other room : ℕ) (x : Answer) → TellsRead c s.seen a other room x → other ≡ file → place_read x ≡ Some p → Took c s.seen a.told file p
      told other room (answer.Read name place bytes) h same is = taken other place name h.1 same (some_same place p is)
      told other room x h same is = absurd (cc (is))

      go : (k : Option Command) → Tells c s.seen a k → cond (option_map_or (λ f. f == file) (file_read k) false) (place_read a.answer) None ≡ Some p
          → Took c s.seen a.told file p
      go (Some (command.Read other room)) h is =
          let w = cond_some (other == file) (place_read a.answer) p is in
          told other room a.answer h (eqb-true other file w.0) w.1
      go k h is = absurd (cc (is))

  -- entries of one name stand at one place
  pub same_placed : (d e : EntryAt) → In d c.entries → In e c.entries → same_name d.at.name e.at.name ≡ true → (d.file ≡ e.file) × (d.at.place ≡ e.at.place)
  same_placed d e i j same =
      let f = s.lines.each d i in
      let g = s.lines.each e j in
      let parts = and_parts (d.at.name.actor == e.at.name.actor && d.at.name.turn == e.at.name.turn) (d.at.name.part == e.at.name.part) same in
      let turn = eqb-true d.at.name.turn e.at.name.turn (and_parts (d.at.name.actor == e.at.name.actor) (d.at.name.turn == e.at.name.turn) parts.0).1 in
      let told = same_asker c s.shape g.placed g.there f.placed.told.command
      (record { told = f.placed.told; command = (s.shape.asked f.placed f.there).0 }) (s.shape.asked f.placed f.there).1
      (f.command ∙ turn ∙ sym g.command) in
      let one = one_answer c s.shape f.placed g.placed f.there g.there told in
      let same_answer = sym f.is ∙ ap (λ (a : AnswerAt). a.answer) one ∙ g.is in
      (files _ _ _ _ _ _ _ _ same_answer, places _ _ _ _ _ _ _ _ same_answer)
    where
      files : (f p e l f' p' e' l' : ℕ) → answer.Placed f p e l ≡ answer.Placed f' p' e' l' → f ≡ f'
      files f p e l f' p' e' l' is = cc (is)

      places : (f p e l f' p' e' l' : ℕ) → answer.Placed f p e l ≡ answer.Placed f' p' e' l' → p ≡ p'
      places f p e l f' p' e' l' is = cc (is)

  pub copy_took : (e : EntryAt) → In e c.entries → (x : StepAt) → In x c.steps → (b : Told) → (o : Option Name) → copied x.at.kind ≡ o
      → option_map_or (same_name e.at.name) o false ≡ true → told_of c x.at.command ≡ Some b → Took c s.seen b e.file e.at.place
  copy_took e i x j b None is same told = absurd (true≢false (sym same))
  copy_took e i x j b (Some name) is same told =
      let t = s.guests.copies x name j is in
      let placed = same_placed e t.entry i t.there (subst (λ n. same_name e.at.name n ≡ true) (sym t.named) same) in
      left_took t.entry b e.file e.at.place (told_is c s.shape x.at.command b told)
      (copied_left t.entry t.entry.at.fate (s.lines.each t.entry t.there).fate t.fate)
      (some_same (s.seen.taker t.entry) b (sym t.by ∙ told)) (sym placed.0) (sym placed.1)

  purge_took : (e : EntryAt) (f : Fate) → TellsFate c s.seen e f → (b : Told)
      → In b (cond (was_purged f) (option_to_list (ending_of c e.file e.at.epoch >>= λ o. told_of c o.at.command)) [])
      → Took c s.seen b e.file e.at.place
  purge_took e (fate.Discarded cause.Purged) h b i =
      let j = subst (In b) (ap (λ o. option_to_list (o >>= λ p. told_of c p.at.command)) h.ends ∙ ap option_to_list h.by) i in
      left_took e b e.file e.at.place
      (subst (IsTold c) (only_one j) (told_is c s.shape h.ending.at.command (s.seen.taker e) h.by)) h.left (only_one j) refl refl
    where
      only_one : In b (s.seen.taker e ∷ []) → s.seen.taker e ≡ b
      only_one (inl is) = is
      only_one (inr z) = absurd z
  purge_took e f h b i = absurd i

  -- who read, copied or purged an entry did so between its sights
  pub takers_took : (e : EntryAt) → In e c.entries → (b : Told) → In b (readers c e ++ copiers c e ++ purgers c e) → Took c s.seen b e.file e.at.place
  takers_took e i b j = ⊎_elim
      (λ l. ⊎_elim
      (λ k.
      let m = in_map (λ (a : AnswerAt). a.told) _ b k in
      let r = in_filter (λ (a : AnswerAt). option_map_or (λ p. p == e.at.place) (taken_from e.file a) false) c.answers m.0 m.1 in
      subst (λ t. Took c s.seen t e.file e.at.place) m.2 (reader m.0 r.0 (taken_from e.file m.0) refl r.1))
      (λ k.
      let m = in_filter_map (λ (x : StepAt). told_of c x.at.command) (copies_of c e.at.name) b k in
      let r = in_filter (λ (x : StepAt). option_map_or (same_name e.at.name) (copied x.at.kind) false) c.steps m.0 m.1 in
      copy_took e i m.0 r.0 b (copied m.0.at.kind) refl r.1 m.2)
      (in_append b (readers c e) (copiers c e) l))
      (λ k. purge_took e e.at.fate (s.lines.each e i).fate b k)
      (in_append b (readers c e ++ copiers c e) (purgers c e) j)
    where
      reader : (a : AnswerAt) → In a c.answers → (o : Option ℕ) → taken_from e.file a ≡ o → option_map_or (λ p. p == e.at.place) o false ≡ true
          → Took c s.seen a.told e.file e.at.place
      reader a k None is same = absurd (true≢false (sym same))
      reader a k (Some p) is same = read_took a k e.file e.at.place (is ∙ ap Some (eqb-true p e.at.place same))
