use Rattle.std.proofs.Common.{◌≡◌, ℕ, List, [], ◌∷◌, ◌++◌, length, take, drop, ap, ◌∙◌}
use Rattle.std.proofs.lemmas.List.{append-nil}
use Rattle.std.proofs.Math.Seq.{take-append_seam, drop-append_seam}
use borrow.Rule.Slice.PartMut.{put_mid}
use Rattle.vhost_rx.proofs.front.front_of.Goals as goal

-- ten bytes, and two behind them
front_is :
    (h ys : List ℕ) → length h ≡ 10 → put_mid 10 2 (h ++ 0 ∷ 0 ∷ []) ys ≡ h ++ ys
front_is h ys e =
    let z : List ℕ = 0 ∷ 0 ∷ [] in
    let t : take 10 (h ++ z) ≡ h = rw (← e) (take-append_seam h z) in
    let d : drop 10 (h ++ z) ≡ z = rw (← e) (drop-append_seam h z) in
    rw (t, d) (ap (λ rest. h ++ rest) (append-nil ys))

pub returns-clause-long : goal.returns-clause-long
returns-clause-long c =
    let y = c.copy_from_slice-2.new.self in
    front_is c.copy_from_slice.new.self y c.copy_from_slice.ensures.len
    ∙ (ap (λ h. h ++ y) c.copy_from_slice.ensures.after
    ∙ ap (λ t. c.args.header.bytes ++ t) (c.copy_from_slice-2.ensures.after ∙ c.le16_bytes_of.ensures.value))

pub returns-clause-short : goal.returns-clause-short
returns-clause-short c =
    let x = c.copy_from_slice.new.self in
    let y = c.copy_from_slice-2.new.self in
    let t : take 10 (x ++ y) ≡ x = rw (← c.copy_from_slice.ensures.len) (take-append_seam x y) in
    ap (λ front. take 10 front) (front_is x y c.copy_from_slice.ensures.len) ∙ (t ∙ c.copy_from_slice.ensures.after)
