use Rattle.std.proofs.Common.{◌≡◌, ◌<◌, rules}
use Rattle.std.specs.Prelude.{List, ℕ, All}
use Rattle.std.specs.Ordering.{nat_cmp}
use Rattle.std.specs.BTreeMap.{is_at}
use Rattle.std.specs.Map.{remove_entry}
use Rattle.std.proofs.lemmas.Map.Views.{All-map-remove_entry}
use Rattle.vring_drive.proofs.Freed.{found_chain}
use Rattle.vring_drive.proofs.driver.Driver.take_back.Goals as goal

pub invariant_of-self-2 : goal.invariant_of-self-2
invariant_of-self-2 c =
    let inside : All (λ i. i < c.self.inside.num) c.in-Some.chain =
    found_chain (λ (chain : List ℕ). All (λ i. i < c.self.inside.num) chain) (is_at (nat_cmp c.args.head)) c.self.inside.out.entries c.in-Some.chain c.self.invariant.out (search rules) in
    let chain : c.as_slice.result.now ≡ c.in-Some.chain = search rules in
    let entries : c.remove.new.self.entries ≡ remove_entry (is_at (nat_cmp c.args.head)) c.self.inside.out.entries = search rules in
    record {
      power = c.self.invariant.power;
      most = c.self.invariant.most;
      fits = c.self.invariant.fits;
      free = c.add_all.ensures.inside c.self.inside.num c.self.invariant.free (rw chain inside);
      out = rw entries (All-map-remove_entry (is_at (nat_cmp c.args.head)) (λ (e : ℕ × List ℕ). e.1) (λ (chain : List ℕ). All (λ i. i < c.self.inside.num) chain) c.self.inside.out.entries c.self.invariant.out);
    }

pub invariant_of-self-in_err-add_all : goal.invariant_of-self-in_err-add_all
invariant_of-self-in_err-add_all c =
    let inside : All (λ i. i < c.self.inside.num) c.in-Some.chain =
    found_chain (λ (chain : List ℕ). All (λ i. i < c.self.inside.num) chain) (is_at (nat_cmp c.args.head)) c.self.inside.out.entries c.in-Some.chain c.self.invariant.out (search rules) in
    let chain : c.as_slice.result.now ≡ c.in-Some.chain = search rules in
    let entries : c.remove.new.self.entries ≡ remove_entry (is_at (nat_cmp c.args.head)) c.self.inside.out.entries = search rules in
    record {
      power = c.self.invariant.power;
      most = c.self.invariant.most;
      fits = c.self.invariant.fits;
      free = c.add_all.ensures.inside c.self.inside.num c.self.invariant.free (rw chain inside);
      out = rw entries (All-map-remove_entry (is_at (nat_cmp c.args.head)) (λ (e : ℕ × List ℕ). e.1) (λ (chain : List ℕ). All (λ i. i < c.self.inside.num) chain) c.self.inside.out.entries c.self.invariant.out);
    }
