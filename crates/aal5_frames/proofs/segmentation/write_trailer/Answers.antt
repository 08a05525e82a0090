use Rattle.std.proofs.Common.{◌≡◌, ℕ, ◌-◌, ◌≤◌, List, ◌++◌, length, take, refl, ap, ◌∙◌, arith}
use Rattle.std.specs.Int.{w16, w32, to_be_bytes}
use borrow.Rule.Slice.PartMut.{put_mid, same_len_mid, mid_len}
use Rattle.aal5_frames.specs.Crc.{crc_of}
use Rattle.aal5_frames.proofs.Cells.{covered, part_over, sealed}
use Rattle.aal5_frames.proofs.segmentation.write_trailer.Goals as goal

pub returns : goal.returns
returns c =
    let xs : List ℕ = c.args.pdu.now in
    let end : ℕ = length xs in
    let room : 8 ≤ end = c.requires in
    let len : List ℕ = to_be_bytes w16 c.args.len in
    let len_is : c.write_u16.new.buf ≡ len = c.write_u16.ensures ∙ part_over xs len (end - 6) (end - 4) (omega arith) (omega arith) (omega arith) in
    let mid : List ℕ = put_mid (end - 6) (end - 4 - (end - 6)) xs c.write_u16.new.buf in
    let mid_size : length mid ≡ end
    = same_len_mid (end - 6) (end - 4 - (end - 6)) xs c.write_u16.new.buf (ap length len_is ∙ omega (arith, mid_len (end - 6) (end - 4) xs (omega arith))) in
    let crc : List ℕ = to_be_bytes w32 c.crc32-crc.result in
    let crc_is : c.write_u32.new.buf ≡ crc = c.write_u32.ensures ∙ part_over mid crc (end - 4) end (omega arith) (omega arith) (omega arith) in
    let value : c.crc32-crc.result ≡ crc_of (take (end - 6) xs ++ len)
    = c.crc32-crc.ensures ∙ ap (λ l. crc_of (take (end - 4) (put_mid (end - 6) (end - 4 - (end - 6)) xs l))) len_is ∙ ap crc_of (covered xs len room refl) in
    (λ i. put_mid (end - 4) (end - (end - 4)) (put_mid (end - 6) (end - 4 - (end - 6)) xs (len_is i)) (crc_is i))
    ∙ sealed xs len crc room refl refl
    ∙ ap (λ n. (take (end - 6) xs ++ len) ++ to_be_bytes w32 n) value
