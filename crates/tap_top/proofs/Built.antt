-- What is served is built.
use Rattle.std.proofs.Common.{◌≡◌, Bool, true, false, cond, Option, Some, None, refl, sym, ap, ◌∙◌}
use Rattle.tap_words.specs.declared.request.Request.{Request}
use Rattle.tap_top.specs.Top.{built, is_built}

kept : (b : Bool) (q r : Request) → is_built q ≡ b → cond b (Some q) None ≡ Some r → is_built r ≡ true
kept true q r is e = let same : q ≡ r = cc in ap is_built (sym same) ∙ is
kept false q r is e = absurd cc

pub built_only : (o : Option Request) (r : Request) → built o ≡ Some r → is_built r ≡ true
built_only None r e = absurd cc
built_only (Some q) r e = kept (is_built q) q r refl e
