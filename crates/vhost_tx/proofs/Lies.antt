-- Where the segments of the worker's chain lie.
use Rattle.std.proofs.Common.{◌≡◌, ℕ, ◌++◌, List, [], Option, Some, None, All, IsTrue, subst, sym, ap, ◌∙◌}
use Rattle.vring_split.specs.declared.layout.Layout.{Layout}
use Rattle.vring_split.specs.declared.segment.Segment.{Segment}
use Rattle.vring_walk.specs.declared.walk.Fetched.TheVariants.{Chain}
use Rattle.vring_walk.specs.Chain.{Look, Cover}
use Rattle.vring_walk.specs.Fetch.{Fetches}
use Rattle.vring_walk.specs.Laws.{ChainsAreUsable}
use Rattle.vring_turns.specs.Ring.{LieIn}
use Rattle.vhost_tx.specs.Kept.{chain_of}

-- those of a chain that was fetched lie in the memory
pub fetched_lies :
    (look : Look) (covers : Cover) (l : Layout) (position head : ℕ) (old new : List Segment)
    → ChainsAreUsable → old ≡ [] → Fetches look covers l position old (Chain head) new
    → LieIn covers (chain_of (Some head) new)
fetched_lies look covers l position head old new usable empty f =
    let good = usable look covers l head f.0 f.1.chain in
    let P : List Segment → Type 0 = λ ss. All (λ s. IsTrue (covers s.addr s.len)) ss in
    let e : old ++ f.0 ≡ f.0 = ap (λ ss. ss ++ f.0) empty in
    (subst P (sym (f.3 ∙ e)) good.lies, tt)

-- without a chain there are none
pub none_lies :
    (covers : Cover) (head : Option ℕ) (old new : List Segment)
    → chain_of head old ≡ [] → LieIn covers (chain_of head new)
none_lies covers None old new e = tt
none_lies covers (Some h) old new e = cc
