-- A path has one end, and so a fetch one answer.
use Rattle.std.proofs.Common.{◌≡◌, ℕ, suc, ◌+◌, ◌-◌, ◌^◌, ◌%◌, ◌<◌, ◌⊎◌, inl, inr, List, [], ◌∷◌, ◌++◌, length, Option, Some, None, refl, sym, ap, ◌∙◌, subst, arith}
use Rattle.vring_split.specs.declared.fault.RingFault.{RingFault}
use Rattle.vring_split.specs.declared.layout.Layout.{Layout}
use Rattle.vring_split.specs.declared.segment.Segment.{Segment}
use Rattle.vring_split.specs.Split.{distance}
use Rattle.vring_walk.specs.declared.walk.Fetched.{Fetched}
use Rattle.vring_walk.specs.declared.walk.Fetched.TheVariants.{Chain, Nothing, Bad, Crowded}
use Rattle.vring_walk.specs.Chain.{Look, Cover, Place, next_place, segments_of, fault_at, Reaches, IsChain, IsFirstFault}
use Rattle.vring_walk.specs.Fetch.{avail_idx, avail_head, HasChain, HasFault, Fetches}

module _ (look : Look) (covers : Cover) (l : Layout) where
  -- paths of one length are one
  meet : (head : ℕ) (b c : List Place) (p q : Place) → Reaches look covers l head b p → Reaches look covers l head c q → length b ≡ length c → (b ≡ c) × (p ≡ q)
  meet head [] [] p q h k e = (refl, h ∙ sym k)
  meet head [] (y ∷ c) p q h k e = absurd (omega arith)
  meet head (x ∷ b) [] p q h k e = absurd (omega arith)
  meet head (x ∷ b) (y ∷ c) p q h k e =
      let back = meet head b c x y h.0 k.0 (omega arith) in
      ((λ i. back.1 i ∷ back.0 i), one (next_place look y) p q (sym (ap (next_place look) back.1) ∙ h.2) k.2)
    where
      one : (o : Option Place) (p q : Place) → o ≡ Some p → o ≡ Some q → p ≡ q
      one o p q h k = let e : Some p ≡ Some q = sym h ∙ k in cc

  -- a place that a path passed
  record Passed (head n : ℕ) : Type 0 where
    behind : List Place
    place : Place
    next : Place
    reached : Reaches look covers l head behind place
    good : fault_at look covers l behind place ≡ None
    on : next_place look place ≡ Some next
    long : length behind ≡ n

  passed : (head n : ℕ) (b : List Place) (p : Place) → Reaches look covers l head b p → n < length b → Passed head n
  passed head n [] p h lt = absurd (omega arith)
  passed head n (q ∷ b) p h lt = elim (cases n (length b) lt) [
    | inl e ↦ record { behind = b; place = q; next = p; reached = h.0; good = h.1; on = h.2; long = sym e }
    | inr less ↦ passed head n b q h.0 less
  ]
    where
      cases : (n k : ℕ) → n < suc k → (n ≡ k) ⊎ (n < k)
      cases n k h = grind arith

  -- a path that goes no further: its last place breaks a rule, or nothing comes after it
  abbrev Stops : List Place → Place → Type 0
  Stops b p = fault_at look covers l b p ≡ None → next_place look p ≡ None

  not_shorter : (head : ℕ) (b c : List Place) (p q : Place) → Reaches look covers l head b p → Stops b p → Reaches look covers l head c q → length b < length c → ⊥
  not_shorter head b c p q h stops k lt =
      let on = passed head (length b) c q k lt in
      let same = meet head on.behind b on.place p on.reached h on.long in
      let good : fault_at look covers l b p ≡ None = sym (λ i. fault_at look covers l (same.0 i) (same.1 i)) ∙ on.good in
      let goes : next_place look p ≡ Some on.next = sym (ap (next_place look) same.1) ∙ on.on in
      let ends : next_place look p ≡ None = stops good in
      let contra : None ≡ Some on.next = sym ends ∙ goes in
      absurd (cc)

  same_end : (head : ℕ) (b c : List Place) (p q : Place) → Reaches look covers l head b p → Stops b p → Reaches look covers l head c q → Stops c q → (b ≡ c) × (p ≡ q)
  same_end head b c p q h hs k ks = elim (cases (length b) (length c)) [
    | inl lt ↦ absurd (not_shorter head b c p q h hs k lt)
    | inr (inl e) ↦ meet head b c p q h k e
    | inr (inr gt) ↦ absurd (not_shorter head c b q p k ks h gt)
  ]
    where
      cases : (a b : ℕ) → (a < b) ⊎ ((a ≡ b) ⊎ (b < a))
      cases a b = grind arith

  fault_stops : (b : List Place) (p : Place) (f : RingFault) → fault_at look covers l b p ≡ Some f → Stops b p
  fault_stops b p f e good = let contra : None ≡ Some f = sym good ∙ e in absurd (cc)

  one_chain : (head : ℕ) (s t : List Segment) → IsChain look covers l head s → IsChain look covers l head t → s ≡ t
  one_chain head s t c d =
      let same = same_end head c.behind d.behind c.last d.last c.reached (λ g. c.ends) d.reached (λ g. d.ends) in
      c.has ∙ (λ i. segments_of look (same.1 i ∷ same.0 i)) ∙ sym d.has

  no_chain_at_fault : (head : ℕ) (s : List Segment) (f : RingFault) → IsChain look covers l head s → IsFirstFault look covers l head f → ⊥
  no_chain_at_fault head s f c d =
      let same = same_end head c.behind d.behind c.last d.bad c.reached (λ g. c.ends) d.reached (fault_stops d.behind d.bad f d.broken) in
      let contra : None ≡ Some f = sym c.good ∙ (λ i. fault_at look covers l (same.0 i) (same.1 i)) ∙ d.broken in
      absurd (cc)

  one_fault : (head : ℕ) (f g : RingFault) → IsFirstFault look covers l head f → IsFirstFault look covers l head g → f ≡ g
  one_fault head f g c d =
      let same = same_end head c.behind d.behind c.bad d.bad c.reached (fault_stops c.behind c.bad f c.broken) d.reached (fault_stops d.behind d.bad g d.broken) in
      let e : Some f ≡ Some g = sym c.broken ∙ (λ i. fault_at look covers l (same.0 i) (same.1 i)) ∙ d.broken in
      cc

  -- at a position there is one chain, or one fault, or nothing
  chains_agree : (position h k : ℕ) (s t : List Segment) → HasChain look covers l position h s → HasChain look covers l position k t → (h ≡ k) × (s ≡ t)
  chains_agree position h k s t c d =
      let e = c.at ∙ sym d.at in
      (e, one_chain k s t (subst (λ n. IsChain look covers l n s) e c.chain) d.chain)

  chain_or_fault : (position h : ℕ) (s : List Segment) (f : RingFault) → HasChain look covers l position h s → HasFault look covers l position f → ⊥
  chain_or_fault position h s f c (inl far) = let near = c.available.near in let jump = far.0 in absurd (omega arith)
  chain_or_fault position h s f c (inr (inl outside)) = let at = c.at in let inside = c.inside in let out = outside.1 in absurd (omega arith)
  chain_or_fault position h s f c (inr (inr path)) = no_chain_at_fault (avail_head look l position) s f (subst (λ n. IsChain look covers l n s) c.at c.chain) path.2

  faults_agree : (position : ℕ) (f g : RingFault) → HasFault look covers l position f → HasFault look covers l position g → f ≡ g
  faults_agree position f g (inl a) (inl b) = a.1 ∙ sym b.1
  faults_agree position f g (inl a) (inr (inl b)) = let near = b.0.near in let jump = a.0 in absurd (omega arith)
  faults_agree position f g (inl a) (inr (inr b)) = let near = b.0.near in let jump = a.0 in absurd (omega arith)
  faults_agree position f g (inr (inl a)) (inl b) = let near = a.0.near in let jump = b.0 in absurd (omega arith)
  faults_agree position f g (inr (inl a)) (inr (inl b)) = a.2 ∙ sym b.2
  faults_agree position f g (inr (inl a)) (inr (inr b)) = let out = a.1 in let inside = b.1 in absurd (omega arith)
  faults_agree position f g (inr (inr a)) (inl b) = let near = a.0.near in let jump = b.0 in absurd (omega arith)
  faults_agree position f g (inr (inr a)) (inr (inl b)) = let out = b.1 in let inside = a.1 in absurd (omega arith)
  faults_agree position f g (inr (inr a)) (inr (inr b)) = one_fault (avail_head look l position) f g a.2 b.2

  no_distance : (n : ℕ) → n < 2 ^ 16 → distance n n ≡ 0
  no_distance n h = let e : n + (2 ^ 16 - n) ≡ 65536 = omega arith in ap (λ k. k % 65536) e

  nothing_or_fault : (position : ℕ) (f : RingFault) → position < 2 ^ 16 → avail_idx look l ≡ position → HasFault look covers l position f → ⊥
  nothing_or_fault position f small e (inl far) =
      let zero_far : distance position (avail_idx look l) ≡ 0 = ap (distance position) e ∙ no_distance position small in
      let jump = far.0 in
      absurd (omega arith)
  nothing_or_fault position f small e (inr (inl outside)) = outside.0.moved e
  nothing_or_fault position f small e (inr (inr path)) = path.0.moved e

  -- two answers to one fetch are one
  pub answers_agree : (position : ℕ) (old new other : List Segment) (a b : Fetched) → position < 2 ^ 16 → Fetches look covers l position old a new → Fetches look covers l position old b other → (a ≡ b) × (new ≡ other)
  answers_agree position old new other (Chain h) (Chain k) small x y =
      let same = chains_agree position h k x.0 y.0 x.1 y.1 in (ap (λ n. Chain n) same.0, x.3 ∙ ap (λ (s : List Segment). old ++ s) same.1 ∙ sym y.3)
  answers_agree position old new other (Chain h) Nothing small x y = absurd (x.1.available.moved y.0)
  answers_agree position old new other (Chain h) (Bad f) small x y = absurd (chain_or_fault position h x.0 f x.1 y.0)
  answers_agree position old new other (Chain h) Crowded small x y =
      let same = chains_agree position h y.0.0 x.0 y.0.1 x.1 y.0.2 in let fits = x.2 in let over = y.0.3 in absurd (omega (arith, ap length same.1))
  answers_agree position old new other Nothing (Chain k) small x y = absurd (y.1.available.moved x.0)
  answers_agree position old new other Nothing Nothing small x y = (refl, x.1 ∙ sym y.1)
  answers_agree position old new other Nothing (Bad f) small x y = absurd (nothing_or_fault position f small x.0 y.0)
  answers_agree position old new other Nothing Crowded small x y = absurd (y.0.2.available.moved x.0)
  answers_agree position old new other (Bad f) (Chain k) small x y = absurd (chain_or_fault position k y.0 f y.1 x.0)
  answers_agree position old new other (Bad f) Nothing small x y = absurd (nothing_or_fault position f small y.0 x.0)
  answers_agree position old new other (Bad f) (Bad g) small x y = (ap (λ e. Bad e) (faults_agree position f g x.0 y.0), x.1 ∙ sym y.1)
  answers_agree position old new other (Bad f) Crowded small x y = absurd (chain_or_fault position y.0.0 y.0.1 f y.0.2 x.0)
  answers_agree position old new other Crowded (Chain k) small x y =
      let same = chains_agree position x.0.0 k x.0.1 y.0 x.0.2 y.1 in let fits = y.2 in let over = x.0.3 in absurd (omega (arith, ap length same.1))
  answers_agree position old new other Crowded Nothing small x y = absurd (x.0.2.available.moved y.0)
  answers_agree position old new other Crowded (Bad g) small x y = absurd (chain_or_fault position x.0.0 x.0.1 g x.0.2 y.0)
  answers_agree position old new other Crowded Crowded small x y = (refl, x.1 ∙ sym y.1)
