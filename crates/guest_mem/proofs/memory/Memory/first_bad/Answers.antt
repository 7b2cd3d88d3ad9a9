use Rattle.std.proofs.Common.{◌≡◌, ℕ, List, length, Bor, Result, Ok, Err, IfOk, IfErr, sym, ◌∙◌}
use Rattle.std.specs.Result.{result_err}
use Rattle.guest_mem.specs.declared.block.Block.{Block}
use Rattle.guest_mem.specs.declared.region.Region.{Region}
use Rattle.guest_mem.specs.Memory.{Contents, first_bad, HoldsBy, IsFirstBadBy}
use Rattle.guest_mem.specs.Blocks.{byte_in}
use Rattle.guest_mem.proofs.Kept.{Holds, first_told, holds_no_gap}
use Rattle.guest_mem.proofs.memory.Memory.first_bad.Goals as goal

told : (m : Contents) (rs : List Region) (bs now : List Block) → now ≡ bs → Holds m rs bs → (a n : ℕ) (r : Result (Bor (List ℕ)) ℕ)
    → IfOk r (λ bytes. length bytes.now ≡ n) → IfOk r (λ bytes. HoldsBy (byte_in now) a bytes.now) → IfErr r (IsFirstBadBy (byte_in now) a n)
    → result_err r ≡ first_bad m.regions a n
told m rs bs now is h a n (Ok bytes) len holds bad = sym (holds_no_gap m rs bs now is h a n bytes.now len holds)
told m rs bs now is h a n (Err first) len holds bad = sym (first_told m rs bs now is h a n first bad)

pub returns : goal.returns
returns c =
    let held : Holds c.args.self.now c.self.inside.regions.items c.self.inside.blocks.items = record { is = c.self.view_is; kept = c.self.invariant } in
    c.err.ensures.value
    ∙ told c.args.self.now c.self.inside.regions.items c.self.inside.blocks.items c.deref.result.now c.deref.ensures.value held c.args.addr c.args.len c.bytes_at.result c.bytes_at.ensures.len c.bytes_at.ensures.bytes c.bytes_at.ensures.bad
