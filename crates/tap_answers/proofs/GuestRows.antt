-- What the event of a poke, a peek or a call says.
use Rattle.std.proofs.Common.{◌≡◌, ℕ, List, true, refl, sym, true≢false}
use Rattle.scen_words.specs.declared.command.Command.{Command}
use Rattle.scen_words.specs.declared.command.Command.TheVariants as command
use Rattle.tap_trace.specs.declared.answer.Answer.{Answer}
use Rattle.tap_world.specs.declared.event.EventKind.{EventKind}
use Rattle.tap_world.specs.declared.event.EventKind.TheVariants as event
use Rattle.tap_world.specs.ByNumber.{at}
use Rattle.tap_world.specs.Setup.{Numbered, Setup}
use Rattle.tap_world.specs.Step.{row}
use Rattle.tap_world.specs.StepControl as control
use Rattle.tap_world.specs.World.{Doing, World}
use Rattle.tap_world.specs.World.Doing.{Begun}
use Rattle.tap_sound.proofs.Kit.{where_only, where_then}
use Rattle.tap_answers.specs.Laws.{is_on_guest}
use Rattle.tap_answers.specs.Says.{SaysBy}
use Rattle.tap_answers.specs.SaysGuests.{CallSays}
use Rattle.tap_answers.specs.SaysShared.{Occasion}
use Rattle.tap_answers.proofs.NextKinds.{at_kind}
use Rattle.tap_answers.proofs.Rows.{AllSay, Known, RowSays, Says, actor_at, at_doing, sees_known}

module _ (s : Setup) (w u : World) (me low n : ℕ) (script : List Numbered) where
  abbrev o : Occasion
  o = at_doing w u me low n Begun

  abbrev At : Command → EventKind → Type 0
  At c j = AllSay s o c (row s w j me (actor_at low script Begun) n c)

  -- a call, of a command whose answers say what calls say
  called : (c : Command) → Known s o c → ((seen : ℕ) (x : Answer) → CallSays o c seen x → SaysBy s o c seen x)
      → At c event.Drive
  called c k says = let P = RowSays s o c in
      where_then P (control.driven_vhost c) _ (λ vhost e1. where_then P (at w.vhosts vhost) _
      (λ v e2. where_then P (at w.guests v.guest) _ (λ g e3. where_then P (control.call_of c v g.memory) _
      (λ x e4. where_only P (control.may_call me c v) (control.call_effect w low vhost v.guest x) (λ b left. (
        says low x.answer (record {
          known = refl;
          vhost = vhost;
          is_its = e1;
          v = v;
          is_vhost = e2;
          g = g;
          is_guest = e3;
          call = x;
          is_call = e4;
          may = b;
          told = refl;
          left = left.vhosts;
        }),
        sees_known s o c k _ left.ops,
      ))))))

  poked : (guest addr : ℕ) (bytes : List ℕ) → Known s o (command.Poke guest addr bytes)
      → At (command.Poke guest addr bytes) event.Poke
  poked guest addr bytes k = where_then (RowSays s o (command.Poke guest addr bytes)) (at w.guests guest) _
      (λ g e1 left. (
        record { known = refl; g = g; is_guest = e1; told = refl },
        sees_known s o (command.Poke guest addr bytes) k _ left.ops,
      ))

  peeked : (guest addr len : ℕ) → Known s o (command.Peek guest addr len)
      → At (command.Peek guest addr len) event.Peek
  peeked guest addr len k = where_then (RowSays s o (command.Peek guest addr len)) (at w.guests guest) _
      (λ g e1 left. (
        record { known = refl; g = g; is_guest = e1; told = refl },
        sees_known s o (command.Peek guest addr len) k _ left.ops,
      ))

  begun_says : (c : Command) → is_on_guest c ≡ true → Says s w u me low n script Begun c
  begun_says (command.Poke guest addr bytes) is k j next =
      at_kind (At (command.Poke guest addr bytes)) j event.Poke next (poked guest addr bytes k)
  begun_says (command.Peek guest addr len) is k j next =
      at_kind (At (command.Peek guest addr len)) j event.Peek next (peeked guest addr len k)
  begun_says (command.Features vhost bits) is k j next =
      at_kind (At (command.Features vhost bits)) j event.Drive next (called _ k (λ seen x h. h))
  begun_says (command.VNum vhost ring m) is k j next =
      at_kind (At (command.VNum vhost ring m)) j event.Drive next (called _ k (λ seen x h. h))
  begun_says (command.VBase vhost ring m) is k j next =
      at_kind (At (command.VBase vhost ring m)) j event.Drive next (called _ k (λ seen x h. h))
  begun_says (command.VAddr vhost ring desc avail used) is k j next =
      at_kind (At (command.VAddr vhost ring desc avail used)) j event.Drive next (called _ k (λ seen x h. h))
  begun_says (command.GetBase vhost ring) is k j next =
      at_kind (At (command.GetBase vhost ring)) j event.Drive next (called _ k (λ seen x h. h))
  begun_says (command.DriveAt vhost ring addr) is k j next =
      at_kind (At (command.DriveAt vhost ring addr)) j event.Drive next (called _ k (λ seen x h. h))
  begun_says (command.PostIn vhost ring lens) is k j next =
      at_kind (At (command.PostIn vhost ring lens)) j event.Drive next (called _ k (λ seen x h. h))
  begun_says (command.PostOut vhost ring bytes) is k j next =
      at_kind (At (command.PostOut vhost ring bytes)) j event.Drive next (called _ k (λ seen x h. h))
  begun_says (command.Harvest vhost ring) is k j next =
      at_kind (At (command.Harvest vhost ring)) j event.Drive next (called _ k (λ seen x h. h))
  begun_says c is k j next = absurd (true≢false (sym is))

  -- none of them goes on
  guest_says : (c : Command) → is_on_guest c ≡ true → (d : Doing) → Says s w u me low n script d c
  guest_says c is Begun k j next = begun_says c is k j next
  guest_says (command.Features vhost bits) is d k j next = absurd (true≢false (sym k.can))
  guest_says (command.VNum vhost ring m) is d k j next = absurd (true≢false (sym k.can))
  guest_says (command.VBase vhost ring m) is d k j next = absurd (true≢false (sym k.can))
  guest_says (command.VAddr vhost ring desc avail used) is d k j next = absurd (true≢false (sym k.can))
  guest_says (command.GetBase vhost ring) is d k j next = absurd (true≢false (sym k.can))
  guest_says (command.DriveAt vhost ring addr) is d k j next = absurd (true≢false (sym k.can))
  guest_says (command.PostIn vhost ring lens) is d k j next = absurd (true≢false (sym k.can))
  guest_says (command.PostOut vhost ring bytes) is d k j next = absurd (true≢false (sym k.can))
  guest_says (command.Harvest vhost ring) is d k j next = absurd (true≢false (sym k.can))
  guest_says (command.Poke guest addr bytes) is d k j next = absurd (true≢false (sym k.can))
  guest_says (command.Peek guest addr len) is d k j next = absurd (true≢false (sym k.can))
  guest_says c is d k j next = absurd (true≢false (sym is))

-- the event of each
pub guests_by : (s : Setup) (w u : World) (me low n : ℕ) (script : List Numbered) (d : Doing) (c : Command)
    → is_on_guest c ≡ true → Says s w u me low n script d c
guests_by s w u me low n script d c is = guest_says s w u me low n script c is d
