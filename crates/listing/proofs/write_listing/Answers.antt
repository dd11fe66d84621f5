-- `write_listing` writes the listing: what is written is the front of the buffer, and is in it.
use Rattle.std.proofs.Common.{◌≡◌, sym, List, ℕ, ◌+◌, length, take, drop, length-take-le, subst}
use Rattle.std.proofs.Math.Seq.{take-append_seam}
use Rattle.std.specs.Prelude.{OnOk}
use Rattle.std.specs.Io.KnownBytes.{Appends}
use Rattle.base_rules.specs.Bytes.{splice}
use Rattle.lister_rules.proofs.Written.{front_within}
use Rattle.listing.proofs.write_listing.Goals as goal

-- the front of a buffer is what was laid there
front_is : (d t e : List ℕ) (n : ℕ) → n ≡ length t → e ≡ splice d 0 t → take n e ≡ t
unfolding splice
front_is d t e n long is = rw (long, is) (take-append_seam t (drop (0 + length t) d))

pub slice_bounds-out-end : goal.slice_bounds-out-end
slice_bounds-out-end g c =
    let whole = c.list_whole-n.ensures in
    front_within _ _ _ _ whole.0 whole.1

pub slice_bounds-write_all-end : goal.slice_bounds-write_all-end
slice_bounds-write_all-end g c =
    let whole = c.list_whole-n.ensures in
    sym (length-take-le _ _ (front_within _ _ _ _ whole.0 whole.1))

pub returns : goal.returns
returns g c =
    let whole = c.list_whole-n.ensures in
    let is = front_is _ _ _ _ whole.0 whole.1 in
    subst (λ (bs : List ℕ). OnOk c.write_all.result (Appends (g.W.Write.contents c.args.writer.now) (g.W.Write.contents c.write_all.new.self) bs)) is c.write_all.ensures.bytes
