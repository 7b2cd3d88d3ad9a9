use Rattle.std.proofs.Common.{◌≡◌, ℕ, suc, ◌+◌, ◌-◌, List, ◌∷◌, [], ◌++◌, Option, None, Some, sym, ap, ◌∙◌, subst, arith}
use Rattle.std.specs.Prelude.{Ok}
use Rattle.packed_drive.specs.Books.{Books, HasArea, taken_back}
use Rattle.packed_drive.specs.Harvests.{Harvest, harvest_of, behind_found, harvested, used_desc, TakesBack}
use Rattle.packed_drive.proofs.Harvested.{none_used, stray_used, chain_used, behind_more, behind_end, none_left}
use Rattle.packed_drive.proofs.driver.PackedDriver.harvest.Goals as goal

pub returns-in-Ok-None-clause-answer : goal.returns-in-Ok-None-clause-answer
returns-in-Ok-None-clause-answer c =
    let m = c.args.mem.now in
    let b = c.loop.self in
    let found = c.loop.found.items in
    let n = c.self.inside.num - (c.loop.counter + 1) in
    let more = c.loop-test.true in
    let left : c.self.inside.num - c.loop.counter ≡ suc n = omega (arith, more) in
    let e : TakesBack m b (Ok None) c.take_back.new.self = subst (λ (r : Option (ℕ × ℕ)). TakesBack m b (Ok r) c.take_back.new.self) c.in-Ok-None.field-0-is c.in-Ok-None.ensures in
    let whole : harvested m c.args.self.now ≡ record { books = b; found = found; stray = None } =
    ap (λ (k : ℕ). harvest_of k m c.args.self.now) (sym (ap (λ (x : Books). x.num) c.self.view_is))
    ∙ sym c.loop.invariant.harvest
    ∙ ap (λ (k : ℕ). behind_found found (harvest_of k m b)) left
    ∙ ap (behind_found found) (none_used n m b e.0)
    ∙ behind_end found m b None in
    (ap (λ (h : Harvest). h.stray) whole, sym (ap (λ (h : Harvest). h.found) whole), e.1 ∙ sym (ap (λ (h : Harvest). h.books) whole))

pub returns-in-Err-clause-answer : goal.returns-in-Err-clause-answer
returns-in-Err-clause-answer c =
    let m = c.args.mem.now in
    let b = c.loop.self in
    let found = c.loop.found.items in
    let n = c.self.inside.num - (c.loop.counter + 1) in
    let more = c.loop-test.true in
    let left : c.self.inside.num - c.loop.counter ≡ suc n = omega (arith, more) in
    let e = c.in-Err.ensures in
    let whole : harvested m c.args.self.now ≡ record { books = b; found = found; stray = Some (used_desc m b).id } =
    ap (λ (k : ℕ). harvest_of k m c.args.self.now) (sym (ap (λ (x : Books). x.num) c.self.view_is))
    ∙ sym c.loop.invariant.harvest
    ∙ ap (λ (k : ℕ). behind_found found (harvest_of k m b)) left
    ∙ ap (behind_found found) (stray_used n m b e.0 e.1)
    ∙ behind_end found m b (Some (used_desc m b).id) in
    (ap (λ (h : Harvest). h.stray) whole ∙ ap (λ (i : ℕ). Some i) (sym e.2), e.3 ∙ sym (ap (λ (h : Harvest). h.books) whole))

pub loop-preserved : goal.loop-preserved
loop-preserved c =
    let m = c.args.mem.now in
    let b = c.loop.self in
    let found = c.loop.found.items in
    let n = c.self.inside.num - (c.loop.counter + 1) in
    let more = c.loop-test.true in
    let left : c.self.inside.num - c.loop.counter ≡ suc n = omega (arith, more) in
    let e : TakesBack m b (Ok (Some c.in-Ok-Some.entry)) c.take_back.new.self = subst (λ (r : Option (ℕ × ℕ)). TakesBack m b (Ok r) c.take_back.new.self) c.in-Ok-Some.field-0-is c.in-Ok-Some.ensures in
    let d = used_desc m b in
    let len = c.push_reserved.ensures.len in
    let room = c.push_reserved.ensures.capacity in
    let old = c.loop.invariant.room in
    record {
      harvest = ap (λ (fs : List (ℕ × ℕ)). behind_found fs (harvest_of n m c.take_back.new.self)) c.push_reserved.ensures.items
          ∙ ap (λ (x : Books). behind_found (found ++ c.in-Ok-Some.entry ∷ []) (harvest_of n m x)) e.4
          ∙ ap (λ (x : ℕ × ℕ). behind_found (found ++ x ∷ []) (harvest_of n m (taken_back d.id e.0 b))) e.3
          ∙ behind_more found (d.id, d.len) (harvest_of n m (taken_back d.id e.0 b))
          ∙ ap (behind_found found) (sym (chain_used n m b e.0 e.1 e.2))
          ∙ ap (λ (k : ℕ). behind_found found (harvest_of k m b)) (sym left)
          ∙ c.loop.invariant.harvest;
      room = omega (arith, len, room, old, more);
      area = subst (λ (x : Books). HasArea x m) (sym e.4) c.loop.invariant.area;
      within = omega (arith, more);
    }

pub returns-clause-answer : goal.returns-clause-answer
returns-clause-answer c =
    let m = c.args.mem.now in
    let b = c.loop.self in
    let found = c.loop.found.items in
    let over = c.loop-test.false in
    let left : c.self.inside.num - c.loop.counter ≡ 0 = omega (arith, over) in
    let whole : harvested m c.args.self.now ≡ record { books = b; found = found; stray = None } =
    ap (λ (k : ℕ). harvest_of k m c.args.self.now) (sym (ap (λ (x : Books). x.num) c.self.view_is))
    ∙ sym c.loop.invariant.harvest
    ∙ ap (λ (k : ℕ). behind_found found (harvest_of k m b)) left
    ∙ ap (behind_found found) (none_left m b)
    ∙ behind_end found m b None in
    (ap (λ (h : Harvest). h.stray) whole, sym (ap (λ (h : Harvest). h.found) whole), sym (ap (λ (h : Harvest). h.books) whole))
