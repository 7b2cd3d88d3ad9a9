-- Lemmas about the order of ends, and about replies.
use Rattle.std.proofs.Common.{◌≡◌, ℕ, ltb, false, cond, List, [], ◌∷◌, ◌++◌, length, sym, ap, ap₂, ◌∙◌, refl, arith}
use Rattle.std.specs.Int.{w16, to_be_bytes}
use Rattle.std.proofs.lemmas.Bool.{le-ltb}
use Rattle.std.specs.Ordering.{nat_cmp, ordering_then, ordering_reverse, match_ordering}
use Rattle.std.specs.declared.cmp.Ordering.{Ordering}
use Rattle.std.specs.declared.cmp.Ordering.TheVariants.{Less, Equal, Greater}
use Rattle.std.specs.Cmp.Lexicographic.{slice_cmp, nat_list_cmp_total}
use Rattle.std.specs.FinMap.{slice_cmp-IsAntisymmetric, nat_cmp-IsAntisymmetric}
use Rattle.tap_flow_key.specs.Fnv.{fnv_of}
use Rattle.tap_flow_key.specs.FlowKey.{ether_type, layout_of, first_end, second_end, in_order, key_between, framed_key, key, nonzero, hash}
use Rattle.tap_flow_key.specs.Reply.{IsReply}

then_assoc : (a b c : Ordering) → ordering_then (ordering_then a b) c ≡ ordering_then a (ordering_then b c)
then_assoc Less b c = refl
then_assoc Equal b c = refl
then_assoc Greater b c = refl

-- where the fronts are of one length, they decide first
pub slice_cmp-append : (xs ys us vs : List ℕ) → length xs ≡ length ys → slice_cmp nat_cmp (xs ++ us) (ys ++ vs) ≡ ordering_then (slice_cmp nat_cmp xs ys) (slice_cmp nat_cmp us vs)
slice_cmp-append [] [] us vs same = refl
slice_cmp-append [] (y ∷ ys) us vs same = absurd (omega arith)
slice_cmp-append (x ∷ xs) [] us vs same = absurd (omega arith)
slice_cmp-append (x ∷ xs) (y ∷ ys) us vs same =
    ap (ordering_then (nat_cmp x y)) (slice_cmp-append xs ys us vs (omega arith)) ∙ sym (then_assoc (nat_cmp x y) (slice_cmp nat_cmp xs ys) (slice_cmp nat_cmp us vs))

-- the two ends are an unordered pair
pub in_order_comm : (x y : List ℕ) → in_order x y ≡ in_order y x
in_order_comm x y =
    let back = nat_list_cmp_total.antisymm y x in
    elim (slice_cmp nat_cmp x y) as (λ o. slice_cmp nat_cmp x y ≡ o → match_ordering o (x ++ y) (x ++ y) (y ++ x) ≡ in_order y x) [
      | Less ↦ λ e. sym (ap (λ o. match_ordering o (y ++ x) (y ++ x) (x ++ y)) (back ∙ ap ordering_reverse e))
      | Equal ↦ λ e. let same = slice_cmp-IsAntisymmetric nat_cmp-IsAntisymmetric x y e in ap (λ z. z ++ y) same ∙ ap (λ z. y ++ z) (sym same) ∙ sym (ap (λ o. match_ordering o (y ++ x) (y ++ x) (x ++ y)) (back ∙ ap ordering_reverse e))
      | Greater ↦ λ e. sym (ap (λ o. match_ordering o (y ++ x) (y ++ x) (x ++ y)) (back ∙ ap ordering_reverse e))
    ] refl

-- an order that is decided stays so
pub decided : (o p : Ordering) → (o ≡ Equal → ⊥) → o ≡ ordering_then o p
decided Less p h = refl
decided Equal p h = absurd (h refl)
decided Greater p h = refl

-- a reply has the same key
framed_reply : (e f : List ℕ) → IsReply e f → framed_key f ≡ framed_key e
framed_reply e f r =
    let there : first_end f (layout_of f) ≡ second_end e (layout_of e) = ap₂ ◌++◌ r.source r.source_port in
    let back : second_end f (layout_of f) ≡ first_end e (layout_of e) = ap₂ ◌++◌ r.destination r.destination_port in
    ap₂ (λ kind protocol. key_between kind protocol (first_end f (layout_of f)) (second_end f (layout_of f))) r.kind r.protocol
    ∙ ap₂ (key_between (ether_type e) (layout_of e).protocol) there back
    ∙ ap (λ ends. to_be_bytes w16 (ether_type e) ++ (layout_of e).protocol ∷ ends) (in_order_comm (second_end e (layout_of e)) (first_end e (layout_of e)))

-- and so the same hash
pub hash-reply : (e f : List ℕ) → IsReply e f → hash f ≡ hash e
unfolding key
hash-reply e f r =
    let long_e : ltb (length e) 14 ≡ false = le-ltb _ _ r.framed in
    let long_f : ltb (length f) 14 ≡ false = le-ltb _ _ r.reply_framed in
    ap (λ k. nonzero (fnv_of k)) (ap (λ b. cond b f (framed_key f)) long_f ∙ framed_reply e f r ∙ sym (ap (λ b. cond b e (framed_key e)) long_e))
