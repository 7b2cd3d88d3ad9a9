use Rattle.std.proofs.Common.{refl}
use Rattle.tap_legal.proofs.Failing.{none_first}
use Rattle.tap_legal.proofs.laws.legal_where_none_fails.Goals as goal

pub returns : goal.returns
returns c = λ s t. (
  λ e.
      let a = none_first _ _ _ e in let b = none_first _ _ _ a.1 in let d = none_first _ _ _ b.1 in
      let f = none_first _ _ _ d.1 in let g = none_first _ _ _ f.1 in let h = none_first _ _ _ g.1 in
      let i = none_first _ _ _ h.1 in let j = none_first _ _ _ i.1 in
      (a.0, b.0, d.0, f.0, g.0, h.0, i.0, j.0),
  λ n. rw (n.0, n.1, n.2, n.3, n.4, n.5, n.6, n.7) refl,
)
