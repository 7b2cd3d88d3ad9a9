-- Growing is an order.
use Rattle.std.proofs.Common.{ℕ, List, [], ◌++◌, Option, refl, sym, ap, ◌∙◌, subst, arith}
use Rattle.std.proofs.lemmas.List.{append-nil, append_assoc}
use Rattle.tap_world.specs.declared.line.Entry.{Entry}
use Rattle.tap_world.specs.declared.line.Standing.{Standing}
use Rattle.tap_world.specs.declared.line.Standing.TheVariants.{Batched, Claimed, Cut, Out, Ready}
use Rattle.tap_world.specs.Guests.{Guest, Vhost}
use Rattle.tap_world.specs.Line.{File}
use Rattle.tap_world.specs.Setup.{Setup}
use Rattle.tap_world.specs.World.{World}
use Rattle.tap_grows.specs.Grows.{Advances, Continues, FileGrows, Grows, GuestGrows, IsLater, IsOfSameGuest, Stay}

-- ---- lists

pub continues_itself : {A : Type 0} (xs : List A) → Continues xs xs
continues_itself xs = ([], sym (append-nil xs))

pub continues_on : {A : Type 0} (xs ys zs : List A) → Continues xs ys → Continues ys zs → Continues xs zs
continues_on xs ys zs h k = (
  h.0 ++ k.0,
  k.1 ∙ ap (λ (l : List _). l ++ k.0) h.1 ∙ append_assoc xs h.0 k.0,
)

pub stay_themselves : {A : Type 0} (R : A → A → Type 0) → ((x : A) → R x x) → (xs : List (Option A)) → Stay R xs xs
stay_themselves R same xs = λ n x e. (x, e, same x)

pub stay_on : {A : Type 0} (R : A → A → Type 0) → ((x y z : A) → R x y → R y z → R x z) → (xs ys zs : List (Option A))
    → Stay R xs ys → Stay R ys zs → Stay R xs zs
stay_on R on xs ys zs h k = λ n x e.
    let y = h n x e in
    let z = k n y.0 y.1 in
    (z.0, z.1, on x y.0 z.0 y.2 z.2)

-- ---- lines

pub advances_itself : (s : Standing) → Advances s s
advances_itself (Claimed actor) = refl
advances_itself Ready = tt
advances_itself Batched = tt
advances_itself (Out fate) = refl
advances_itself Cut = refl

advances_on : (a b c : Standing) → Advances a b → Advances b c → Advances a c
advances_on (Claimed actor) (Claimed other) c h k = subst (λ (n : ℕ). Advances (Claimed n) c) h k
advances_on (Claimed actor) Ready (Claimed other) h k = absurd k
advances_on (Claimed actor) Ready c h k = from_claimed actor c k
  where
    from_claimed : (actor : ℕ) (c : Standing) → Advances Ready c → Advances (Claimed actor) c
    from_claimed actor (Claimed other) k = absurd k
    from_claimed actor Ready k = tt
    from_claimed actor Batched k = tt
    from_claimed actor (Out fate) k = tt
    from_claimed actor Cut k = tt
advances_on (Claimed actor) Batched Batched h k = tt
advances_on (Claimed actor) Batched (Out fate) h k = tt
advances_on (Claimed actor) Batched (Claimed other) h k = absurd k
advances_on (Claimed actor) Batched Ready h k = absurd k
advances_on (Claimed actor) Batched Cut h k = absurd k
advances_on (Claimed actor) (Out fate) c h k = subst (Advances (Claimed actor)) (sym k) tt
advances_on (Claimed actor) Cut c h k = subst (Advances (Claimed actor)) (sym k) tt
advances_on Ready (Claimed actor) c h k = absurd h
advances_on Ready Ready c h k = k
advances_on Ready Batched Batched h k = tt
advances_on Ready Batched (Out fate) h k = tt
advances_on Ready Batched (Claimed other) h k = absurd k
advances_on Ready Batched Ready h k = absurd k
advances_on Ready Batched Cut h k = absurd k
advances_on Ready (Out fate) c h k = subst (Advances Ready) (sym k) tt
advances_on Ready Cut c h k = subst (Advances Ready) (sym k) tt
advances_on Batched (Claimed actor) c h k = absurd h
advances_on Batched Ready c h k = absurd h
advances_on Batched Batched c h k = k
advances_on Batched (Out fate) c h k = subst (Advances Batched) (sym k) tt
advances_on Batched Cut c h k = absurd h
advances_on (Out fate) b c h k = subst (λ (s : Standing). Advances s c) h k
advances_on Cut b c h k = subst (λ (s : Standing). Advances s c) h k

pub later_itself : (e : Entry) → IsLater e e
later_itself e = record { name = refl; epoch = refl; len = refl; stands = advances_itself e.stands }

pub later_on : (c d e : Entry) → IsLater c d → IsLater d e → IsLater c e
later_on c d e h k = record {
  name = k.name ∙ h.name;
  epoch = k.epoch ∙ h.epoch;
  len = k.len ∙ h.len;
  stands = advances_on c.stands d.stands e.stands h.stands k.stands;
}

pub file_itself : (f : File) → FileGrows f f
file_itself f = record {
  first = refl;
  longer = omega arith;
  entries = λ i d e. (d, e, later_itself d);
  freed = omega arith;
  epoch = omega arith;
  resizes = omega arith;
}

pub file_on : (e f g : File) → FileGrows e f → FileGrows f g → FileGrows e g
file_on e f g h k = record {
  first = k.first ∙ h.first;
  longer = let a = h.longer in let b = k.longer in omega (arith, a, b);
  entries = λ i d is.
      let x = h.entries i d is in
      let y = k.entries i x.0 x.1 in
      (y.0, y.1, later_on d x.0 y.0 x.2 y.2);
  freed = let a = h.freed in let b = k.freed in omega (arith, a, b);
  epoch = let a = h.epoch in let b = k.epoch in omega (arith, a, b);
  resizes = let a = h.resizes in let b = k.resizes in omega (arith, a, b);
}

-- ---- guests and vhosts

pub guest_itself : (g : Guest) → GuestGrows g g
guest_itself g = record { regions = refl; steps = continues_itself g.steps }

guest_on : (f g h : Guest) → GuestGrows f g → GuestGrows g h → GuestGrows f h
guest_on f g h a b = record {
  regions = b.regions ∙ a.regions;
  steps = continues_on f.steps g.steps h.steps a.steps b.steps;
}

vhost_on : (v x y : Vhost) → IsOfSameGuest v x → IsOfSameGuest x y → IsOfSameGuest v y
vhost_on v x y h k = k ∙ h

-- ---- worlds

pub grows_to_itself : (s : Setup) (w : World) → Grows s w w
grows_to_itself s w = record {
  ops = continues_itself w.ops;
  coming = continues_itself _;
  files = stay_themselves FileGrows file_itself w.files;
  guests = stay_themselves GuestGrows guest_itself w.guests;
  vhosts = stay_themselves IsOfSameGuest (λ v. refl) w.vhosts;
  hosted = continues_itself w.hosted;
  dropped = continues_itself w.dropped;
  said = continues_itself w.said;
  phase = omega arith;
}

pub grows_on : (s : Setup) (w v u : World) → Grows s w v → Grows s v u → Grows s w u
grows_on s w v u h k = record {
  ops = continues_on w.ops v.ops u.ops h.ops k.ops;
  coming = continues_on _ _ _ h.coming k.coming;
  files = stay_on FileGrows file_on w.files v.files u.files h.files k.files;
  guests = stay_on GuestGrows guest_on w.guests v.guests u.guests h.guests k.guests;
  vhosts = stay_on IsOfSameGuest vhost_on w.vhosts v.vhosts u.vhosts h.vhosts k.vhosts;
  hosted = continues_on w.hosted v.hosted u.hosted h.hosted k.hosted;
  dropped = continues_on w.dropped v.dropped u.dropped h.dropped k.dropped;
  said = continues_on w.said v.said u.said h.said k.said;
  phase = let a = h.phase in let b = k.phase in omega (arith, a, b);
}
