use Rattle.std.proofs.Common.{◌≡◌, ◌<◌, ap, subst, rules, take}
use Rattle.std.specs.Prelude.{List, ℕ, All}
use Rattle.std.specs.Ordering.{nat_cmp}
use Rattle.std.specs.BTreeMap.{insert_entry}
use Rattle.std.proofs.lemmas.List.Elements.{All-take, All-drop}
use Rattle.std.proofs.lemmas.Map.Views.{All-values-insert_entry}
use Rattle.vring_drive.specs.Books.{Books}
use Rattle.vring_drive.proofs.driver.Driver.send_out.Goals as goal

pub invariant_of-self-2 : goal.invariant_of-self-2
invariant_of-self-2 c =
    let chain : c.in_ok-chain.chain.items ≡ take c.args.need c.self.inside.free.keys = search rules in
    let entries : c.insert.new.self.entries ≡ insert_entry nat_cmp c.self.inside.out.entries c.from.result c.in_ok-kept.kept = search rules in
    let kept : c.in_ok-kept.kept ≡ c.in_ok-chain.chain.items = search rules in
    let fewer : All (λ i. i < c.self.inside.num) c.in_ok-kept.kept =
    rw (kept, chain) (All-take (λ (i : ℕ). i < c.self.inside.num) c.args.need c.self.inside.free.keys c.self.invariant.free) in
    record {
      power = c.self.invariant.power;
      most = c.self.invariant.most;
      fits = c.self.invariant.fits;
      free = rw c.take_lowest.ensures (All-drop (λ (i : ℕ). i < c.self.inside.num) c.args.need c.self.inside.free.keys c.self.invariant.free);
      out = rw entries (All-values-insert_entry nat_cmp c.from.result c.in_ok-kept.kept (λ (chain : List ℕ). All (λ i. i < c.self.inside.num) chain) c.self.inside.out.entries c.self.invariant.out fewer);
    }

pub returns-clause-inside : goal.returns-clause-inside
returns-clause-inside c =
    let chain : c.in_ok-chain.chain.items ≡ take c.args.need c.self.inside.free.keys = search rules in
    let num : c.self.inside.num ≡ c.args.self.now.num = ap (λ (b : Books). b.num) c.self.view_is in
    subst (λ (n : ℕ). All (λ i. i < n) c.in_ok-chain.chain.items) num
    (rw chain (All-take (λ (i : ℕ). i < c.self.inside.num) c.args.need c.self.inside.free.keys c.self.invariant.free))
