-- Control commands under way: they may always go on, but for a detach and a resize that wait for frames.
use Rattle.std.proofs.Common.{◌≡◌, ℕ, suc, ◌+◌, List, [], ◌∷◌, Bool, true, false, not, Option, Some, None, ⊎_elim, refl, sym, ap, ◌∙◌, subst, true≢false}
use Rattle.std.specs.Prelude.{if◌then◌else◌, ◌==◌, ◌||◌, is_none, is_some, slice_get, nat_lt}
use Rattle.std.specs.Option.{option_map_or}
use Rattle.std.specs.List.{list_any}
use Rattle.tap_ledger.specs.declared.error.TapErr.{TapErr}
use Rattle.tap_ledger.specs.declared.fate.Cause.TheVariants as cause
use Rattle.tap_ledger.specs.declared.fate.Fate.TheVariants as fate
use Rattle.tap_steer.specs.declared.files.Attachment.{Attachment}
use Rattle.tap_steer.specs.declared.files.Attachment.TheVariants.{Unattached, Enabled, Disabled}
use Rattle.tap_steer.specs.declared.operation.Op.TheVariants as op
use Rattle.tap_steer.specs.declared.operation.TheConstants.{IFF_ATTACH_QUEUE, IFF_DETACH_QUEUE}
use Rattle.tap_steer.specs.Table.{Table, file_at, home, is_enabled, is_set}
use Rattle.tap_steer.specs.Rules.{Rule, attach_rules, detach_rules, first_broken, no_flag_rules, refuse, resize_rules, set_iff_rules}
use Rattle.scen_words.specs.declared.command.Command.{Command}
use Rattle.scen_words.specs.declared.command.Command.TheVariants as command
use Rattle.tap_ground.specs.Options.{◌>>=◌}
use Rattle.tap_world.specs.declared.event.EventKind.TheVariants as event
use Rattle.tap_world.specs.declared.event.Found.TheVariants as found
use Rattle.tap_world.specs.ByNumber.{at}
use Rattle.tap_world.specs.Setup.{Numbered, Setup, place_of}
use Rattle.tap_world.specs.Line.{File, claimed, first_that, has_batch, has_claim, in_batch, in_ring, is_empty, is_over, last_that}
use Rattle.tap_world.specs.LineSteps.{ready_front}
use Rattle.tap_world.specs.LineSteps.Change.{Cuts, Leaves, Moves, Reopens, Shuts, Sizes}
use Rattle.tap_world.specs.World.{Actor, Doing, World, table}
use Rattle.tap_world.specs.World.Doing.{Changes, Opened, Opens, Purges, Resizes, Shrinks, Withdrawn, Withdraws}
use Rattle.tap_world.specs.Effect.{Effect, on_file}
use Rattle.tap_world.specs.Effect.Onward.{Goes as GoesOn, Stays}
use Rattle.tap_world.specs.Scripts.{purge_next, shrink_next}
use Rattle.tap_world.specs.Step.{or_else}
use Rattle.tap_world.specs.StepRing.{cuts, moves_in, name_at, reopens, resizes, shuts}
use Rattle.tap_world.specs.StepTable.{resize_told}
use Rattle.tap_world.specs.StepTransmits.{turns}
use Rattle.tap_world.specs.Sound.{holds, is_purging}
use Rattle.tap_world.specs.SoundActors as so
use Rattle.tap_world.specs.SoundTable.{Agreed, of_table}
use Rattle.tap_world.specs.Waiting.{may_purge, may_shrink}
use Rattle.tap_sound.proofs.Kit.{some_same}
use Rattle.tap_sound.proofs.TableFiles.{attach_finds}
use Rattle.tap_sound.proofs.Taken.{both}
use Rattle.tap_sound.proofs.Turned.{at_is, itself}
use Rattle.tap_sound.proofs.Publishing.{equal}
use Rattle.tap_waits.proofs.Kit.{does, is_there}
use Rattle.tap_waits.proofs.NextFacts.{Goes, Here, agreed, can, does_on_file, does_there, file_named, held_row, lawful, me, name_there, named_row, own_row, writer_me}
use Rattle.tap_waits.proofs.NextLines.{all_three, below, cut_is, first_stands, last_there, left_is, moved_is, over_has_last, ready_there, some_only}

-- ---- who else holds the writer

pub any_place : (test : Actor → Bool) (xs : List Actor) → list_any test xs ≡ true
    → (k : ℕ) × (x : Actor) × (slice_get xs k ≡ Some x) × (test x ≡ true)
any_place test [] e = absurd (true≢false (sym e))
any_place test (x ∷ xs) e = go (test x) refl e (any_place test xs)
  where
    go : (b : Bool) → test x ≡ b → (b || list_any test xs) ≡ true
        → (list_any test xs ≡ true → (k : ℕ) × (y : Actor) × (slice_get xs k ≡ Some y) × (test y ≡ true))
        → (k : ℕ) × (y : Actor) × (slice_get (x ∷ xs) k ≡ Some y) × (test y ≡ true)
    go true is h rest = (0, x, refl, is)
    go false is h rest = let r = rest h in (suc r.0, r.1, r.2, r.3)

purging_holds : (file : ℕ) (d : Doing) → is_purging file d ≡ true → holds d ≡ true
purging_holds file (Purges other version) e = refl
purging_holds file d e = absurd (true≢false (sym e))

-- ---- what isn't refused

abbrev Unbroken : List Rule → Type 0
Unbroken [] = Unit {0}
Unbroken (rule ∷ rules) = (rule.0 ≡ false) × Unbroken rules

not_broken : (b : Bool) (x : TapErr) (rest : Option TapErr) → (if b then Some x else rest) ≡ None
    → (b ≡ false) × (rest ≡ None)
not_broken true x rest e = absurd (cc (e))
not_broken false x rest e = (refl, e)

unbroken : (rules : List Rule) → first_broken rules ≡ None → Unbroken rules
unbroken [] e = tt
unbroken (rule ∷ rules) e = let a = not_broken rule.0 rule.1 (first_broken rules) e in (a.0, unbroken rules a.1)

homeless : (a : Attachment) → is_some (home a) ≡ false → is_enabled a ≡ false
homeless Unattached e = refl
homeless (Enabled device) e = absurd (true≢false e)
homeless (Disabled device) e = refl

-- what is attached isn't enabled, and has an epoch left
pub record MayOpen (t : Table) (file : ℕ) : Type 0 where
  pub off : is_enabled (file_at t file).attachment ≡ false
  pub left : nat_lt (file_at t file).epoch 65535 ≡ true

iff_opens : (t : Table) (file device flags : ℕ) → refuse t (op.SetIff file device flags) ≡ None → MayOpen t file
unfolding refuse set_iff_rules
iff_opens t file device flags e =
    let u = unbroken (set_iff_rules t file device flags) e in
    record {
      off = homeless (file_at t file).attachment u.0;
      left = below (file_at t file).epoch 65535
          u.1.1.1.1.1.1.1.1.0;
    }

queue_opens : (t : Table) (file flags : ℕ) → refuse t (op.SetQueue file flags) ≡ None → is_set flags IFF_ATTACH_QUEUE
    ≡ true → MayOpen t file
unfolding refuse attach_rules
queue_opens t file flags e is =
    let it : first_broken (attach_rules t file) ≡ None =
    subst (λ (b : Bool). first_broken
    (if b then attach_rules t file else (if is_set flags IFF_DETACH_QUEUE then detach_rules t file else
    no_flag_rules)) ≡ None) is e in
    let u = unbroken (attach_rules t file) it in
    let off = attach_finds t file flags e is in
    record { off = ap (λ (x : Attachment). is_enabled x) off.1; left = below (file_at t file).epoch 65535 u.1.0 }

resize_left : (t : Table) (file capacity : ℕ) → refuse t (op.Resize file capacity) ≡ None
    → nat_lt (file_at t file).resizes 127 ≡ true
unfolding refuse
resize_left t file capacity e = let u = unbroken (resize_rules t file) e in below (file_at t file).resizes 127 u.1.0

-- the ring's front moves to the batch, where that is empty
pub moves_done : (w : World) (i n file : ℕ) (f : File) → at w.files file ≡ Some f → has_batch f ≡ false
    → does w i n (moves_in w file) ≡ is_some (ready_front f.line)
moves_done w i n file f at_ none =
    ap (λ (o : Option File). does w i n
    (o >>= (λ g. name_at g.line (ready_front g.line)
    >>= (λ name. Some (on_file file Moves (Stays (found.Moved name)) w))))) at_
    ∙ go (ready_front f.line) refl
  where
    go : (o : Option ℕ) → ready_front f.line ≡ o
        → does w i n (name_at f.line (ready_front f.line)
        >>= (λ name. Some (on_file file Moves (Stays (found.Moved name)) w))) ≡ is_some (ready_front f.line)
    go None is =
        ap (λ (q : Option ℕ). does w i n
        (name_at f.line q >>= (λ name. Some (on_file file Moves (Stays (found.Moved name)) w)))) is
        ∙ ap (λ q. is_some q) (sym is)
    go (Some k) is =
        let e = ready_there f.line k is in
        ap (λ q. does w i n (q >>= (λ name. Some (on_file file Moves (Stays (found.Moved name)) w))))
        (name_there f.line (ready_front f.line) k e.0 is e.1)
        ∙ does_on_file w i n file f Moves (Stays (found.Moved e.0.name)) at_ ∙ moved_is f none

module _ {s : Setup} {w : World} {i seen : ℕ} {script : List Numbered} {n : ℕ} where
  -- no other actor has a command that holds the writer
  only_writer : (c : Command) (d : Doing) → Here s w i seen script n c d → holds d ≡ true → (j : ℕ) (a : Actor)
      → slice_get w.actors j ≡ Some a
      → holds a.doing ≡ true → a ≡ me seen script d
  only_writer c d h e j a at_ holding =
      let mine = writer_me h e in
      let its : w.writer ≡ Some j = at_is j w.writer (sym (h.sound.actors.writer j a at_) ∙ holding) in
      let same : j ≡ i = some_same j i (sym its ∙ mine) in
      some_same a (me seen script d) (sym at_ ∙ ap (λ (k : ℕ). slice_get w.actors k) same ∙ h.found)

  -- ---- what changes the table alone

  pub changes_goes : (c : Command) → Here s w i seen script n c Changes → so.changes c ≡ true
      → Goes s w i seen script n c Changes
  changes_goes (command.Close file) h e = record {
    kind = event.Publish;
    is_next = refl;
    done = ap (does w i n)
        (own_row h refl (op.Shut file) refl refl);
  }
  changes_goes (command.Persist file on) h e = record {
    kind = event.Publish;
    is_next = refl;
    done = ap (does w i n)
        (own_row h refl (op.Persist file on) refl refl);
  }
  changes_goes (command.HdrSize file size) h e = record {
    kind = event.Publish;
    is_next = refl;
    done = ap (does w i n)
        (own_row h refl (op.HdrSize file size) refl refl);
  }
  changes_goes (command.Steer file program) h e = record {
    kind = event.Publish;
    is_next = refl;
    done = ap (does w i n)
        (own_row h refl (op.Steering file (place_of s program)) refl refl);
  }
  changes_goes (command.Filter file program) h e =
      record {
        kind = event.Publish;
        is_next = refl;
        done = ap (does w i n)
            (own_row h refl (op.Filter file (place_of s program)) refl refl);
      }
  changes_goes (command.Tick now) h e = record {
    kind = event.Publish;
    is_next = refl;
    done = ap (does w i n)
        (own_row h refl (op.Tick now) refl refl);
  }
  changes_goes c h e = absurd (true≢false (sym e))

  -- ---- an attach

  may_open : (c : Command) (file : ℕ) → Here s w i seen script n c (Opens file) → so.attaches file c ≡ true
      → MayOpen (table s w) file
  may_open (command.SetIff other device flags) file h e =
      subst (MayOpen (table s w)) (equal other file e)
      (iff_opens (table s w) other device flags (lawful h refl (op.SetIff other device flags) refl))
  may_open (command.SetQueue other flags) file h e =
      let b = both (other == file) (is_set flags IFF_ATTACH_QUEUE) e in
      subst (MayOpen (table s w)) (equal other file b.0)
      (queue_opens (table s w) other flags (lawful h refl (op.SetQueue other flags) refl) b.1)
  may_open c file h e = absurd (true≢false (sym e))

  empty_here : (c : Command) (file : ℕ) (f : File) → Here s w i seen script n c (Opens file) → at w.files file ≡ Some f
      → f.shut ≡ true → is_empty f ≡ true
  empty_here c file f h at_ shut = ⊎_elim (λ e. e) (λ any.
      let p = any_place (λ (a : Actor). is_purging file a.doing) w.actors any in
      let same = only_writer c (Opens file) h refl p.0 p.1 p.2 (purging_holds file p.1.doing p.3) in
      absurd (true≢false (sym p.3 ∙ ap (λ (a : Actor). is_purging file a.doing) same))) (h.sound.shut file f at_ shut)

  pub opens_goes : (c : Command) (file : ℕ) → Here s w i seen script n c (Opens file)
      → Goes s w i seen script n c (Opens file)
  opens_goes c file h =
      let there = file_named h file refl in
      let f = there.0 in
      let may = may_open c file h (can h) in
      let agree = agreed h refl file f there.1 in
      let shut : f.shut ≡ true = ap (λ (x : Agreed). x.shut) agree ∙ ap (λ b. not b) may.off in
      let epoch : nat_lt f.epoch 65535 ≡ true = ap (λ (x : Agreed). nat_lt x.epoch 65535) agree ∙ may.left in
      record {
        kind = event.Reopen;
        is_next = refl;
        done =
            ap (does w i n) (held_row h refl (reopens w seen (Opens file)))
            ∙ does_there w i n file f Reopens (λ g. GoesOn seen (Opened file) (found.Epoch (g.epoch + 1))) there.1
            ∙ some_only _ _ ∙ all_three f.shut (is_empty f) (nat_lt f.epoch 65535) shut
            (empty_here c file f h there.1 shut) epoch;
      }

  pub opened_goes : (c : Command) (file : ℕ) → Here s w i seen script n c (Opened file) → so.attaches file c ≡ true
      → Goes s w i seen script n c (Opened file)
  opened_goes (command.SetIff other device flags) file h e =
      record {
        kind = event.Publish;
        is_next = refl;
        done = ap (does w i n)
            (own_row h refl (op.SetIff other device flags) refl refl);
      }
  opened_goes (command.SetQueue other flags) file h e =
      record {
        kind = event.Publish;
        is_next = refl;
        done = ap (does w i n)
            (own_row h refl (op.SetQueue other flags) refl refl);
      }
  opened_goes c file h e = absurd (true≢false (sym e))

  -- ---- a detach

  pub withdraws_goes : (c : Command) (file : ℕ) → Here s w i seen script n c (Withdraws file)
      → so.detaches file c ≡ true → Goes s w i seen script n c (Withdraws file)
  withdraws_goes (command.SetQueue other flags) file h e =
      record {
        kind = event.Publish;
        is_next = refl;
        done = ap (does w i n)
            (own_row h refl (op.SetQueue other flags) refl refl);
      }
  withdraws_goes (command.Close other) file h e = record {
    kind = event.Publish;
    is_next = refl;
    done = ap (does w i n)
        (own_row h refl (op.Shut other) refl refl);
  }
  withdraws_goes c file h e = absurd (true≢false (sym e))

  pub withdrawn_goes : (c : Command) (file version : ℕ) → Here s w i seen script n c (Withdrawn file version)
      → Goes s w i seen script n c (Withdrawn file version)
  withdrawn_goes c file version h =
      let there = file_named h file refl in
      let f = there.0 in
      let x = of_table (table s w) file in
      let agree = agreed h refl file f there.1 in
      let open_ : f.shut ≡ false =
      ap (λ (y : Agreed). y.shut) agree ∙ ap (λ (b : Bool). (if b then record x { shut = false } else x).shut)
      (itself file) in
      record {
        kind = event.Shut;
        is_next = refl;
        done =
            ap (does w i n) (held_row h refl (shuts w seen (Withdrawn file version)))
            ∙ does_there w i n file f Shuts (λ g. GoesOn seen (Purges file version) (found.Claimed (claimed g))) there.1
            ∙ some_only _ _ ∙ ap (λ b. not b) open_;
      }

  pub purges_goes : (c : Command) (file version : ℕ) → Here s w i seen script n c (Purges file version)
      → Goes s w i seen script n c (Purges file version)
  purges_goes c file version h =
      let there = file_named h file refl in
      go there.0 there.1 (has_batch there.0) refl
    where
      go : (f : File) → at w.files file ≡ Some f → (b : Bool) → has_batch f ≡ b
          → Goes s w i seen script n c (Purges file version)
      go f at_ true is =
          let k = is_there (first_that in_batch f.line) is in
          let e = first_stands in_batch f.line k.0 k.1 in
          record {
            kind = event.Out;
            is_next = ap (λ (o : Option File). option_map_or (λ g. Some (purge_next g)) o None) at_
                ∙ ap (λ (b : Bool). Some (if b then event.Out else event.Move)) is;
            done =
                ap (λ (o : Option Effect). does w i n (or_else o (turns w i n seen (Purges file version) c)))
                (named_row w file f (Leaves None (fate.Discarded cause.Purged)) (λ name. Stays (found.Moved name))
                (λ line. first_that in_batch line) k.0 e.entry at_ k.1 e.is_there)
                ∙ does_on_file w i n file f (Leaves None (fate.Discarded cause.Purged))
                (Stays (found.Moved e.entry.name)) at_ ∙ left_is f (fate.Discarded cause.Purged) k.0 k.1
                ∙ sym (ap (λ (o : Option File). option_map_or may_purge o false) at_
                ∙ ap (λ (b : Bool). if b then is_none f.hand else is_some (ready_front f.line)) is);
          }
      go f at_ false is = record {
        kind = event.Move;
        is_next = ap (λ (o : Option File). option_map_or (λ g. Some (purge_next g)) o None) at_
            ∙ ap (λ (b : Bool). Some (if b then event.Out else event.Move)) is;
        done =
            moves_done w i n file f at_ is
            ∙ sym (ap (λ (o : Option File). option_map_or may_purge o false) at_
            ∙ ap (λ (b : Bool). if b then is_none f.hand else is_some (ready_front f.line)) is);
      }

  -- ---- a resize

  may_resize : (c : Command) (file capacity : ℕ) → Here s w i seen script n c (Resizes file capacity)
      → so.resizes_to file capacity c ≡ true → nat_lt (file_at (table s w) file).resizes 127 ≡ true
  may_resize (command.Resize other asked) file capacity h e =
      let b = both (other == file) (asked == capacity) e in
      subst (λ (k : ℕ). nat_lt (file_at (table s w) k).resizes 127 ≡ true) (equal other file b.0)
      (resize_left (table s w) other asked (lawful h refl (op.Resize other asked) refl))
  may_resize c file capacity h e = absurd (true≢false (sym e))

  pub resizes_goes : (c : Command) (file capacity : ℕ) → Here s w i seen script n c (Resizes file capacity)
      → Goes s w i seen script n c (Resizes file capacity)
  resizes_goes c file capacity h =
      let there = file_named h file refl in
      let f = there.0 in
      let agree = agreed h refl file f there.1 in
      let few : nat_lt f.resizes 127 ≡ true = ap (λ (x : Agreed). nat_lt x.resizes 127) agree
      ∙ may_resize c file capacity h (can h) in
      record {
        kind = event.Resize;
        is_next = refl;
        done =
            ap (does w i n) (held_row h refl (resizes w seen (Resizes file capacity)))
            ∙ does_there w i n file f (Sizes capacity)
            (λ g. GoesOn seen (Shrinks file (claimed g) 0) (found.Claimed (claimed g))) there.1
            ∙ some_only _ _ ∙ few;
      }

  shrinks_publish : (c : Command) (file places made : ℕ) (f : File)
      → Here s w i seen script n c (Shrinks file places made) → at w.files file ≡ Some f → so.resizes file c ≡ true
      → is_over f ≡ false → Goes s w i seen script n c (Shrinks file places made)
  shrinks_publish (command.Resize other asked) file places made f h at_ e is = record {
    kind = event.Publish;
    is_next = ap (λ (o : Option File). option_map_or (λ g. Some (shrink_next g)) o None) at_
        ∙ ap (λ (b : Bool). Some (if b then event.Cut else event.Publish)) is;
    done =
        ap (does w i n) (own_row h refl (op.Resize other asked) refl refl)
        ∙ ap (λ (o : Option File). does w i n
        (o >>= (λ g. Some (resize_told w (op.Resize other asked) places made g)))) at_
        ∙ sym (ap (λ (o : Option File). option_map_or may_shrink o false) at_
        ∙ ap (λ (b : Bool). not b || not (has_claim f)) is);
  }
  shrinks_publish c file places made f h at_ e is = absurd (true≢false (sym e))

  pub shrinks_goes : (c : Command) (file places made : ℕ) → Here s w i seen script n c (Shrinks file places made)
      → Goes s w i seen script n c (Shrinks file places made)
  shrinks_goes c file places made h =
      let there = file_named h file refl in
      go there.0 there.1 (is_over there.0) refl
    where
      go : (f : File) → at w.files file ≡ Some f → (b : Bool) → is_over f ≡ b
          → Goes s w i seen script n c (Shrinks file places made)
      go f at_ true is =
          let k = over_has_last f is in
          let e = last_there in_ring f.line k.0 k.1 in
          record {
            kind = event.Cut;
            is_next = ap (λ (o : Option File). option_map_or (λ g. Some (shrink_next g)) o None) at_
                ∙ ap (λ (b : Bool). Some (if b then event.Cut else event.Publish)) is;
            done =
                ap (does w i n) (held_row h refl (cuts w seen (Shrinks file places made)))
                ∙ ap (does w i n) (named_row w file f Cuts
                (λ name. GoesOn seen (Shrinks file places (made + 1)) (found.Moved name))
                (λ line. last_that in_ring line) k.0 e.0 at_ k.1 e.1)
                ∙ does_on_file w i n file f Cuts (GoesOn seen (Shrinks file places (made + 1)) (found.Moved e.0.name))
                at_ ∙ cut_is f k.0 is k.1
                ∙ sym (ap (λ (o : Option File). option_map_or may_shrink o false) at_
                ∙ ap (λ (b : Bool). not b || not (has_claim f)) is);
          }
      go f at_ false is = shrinks_publish c file places made f h at_ (can h) is
