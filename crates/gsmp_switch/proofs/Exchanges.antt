-- A fabric and its chain, against what they are seen as

use Rattle.std.proofs.Common.{◌≡◌, ◌∙◌, Bool, true, false, cond, Result, Ok, Err, ℕ, List, [], length, map, replicate, ap, refl, arith}
use Rattle.std.specs.Prelude.{nat_le, OnOk, OnErr}
use Rattle.net_types.specs.declared.node.PortNo.{PortNo}
use Rattle.net_types.specs.declared.channel.Channel.{Channel}
use Rattle.net_types.specs.declared.number.Mark.{Mark}
use Rattle.net_types.specs.declared.memory.OutOfMemory.{OutOfMemory}
use Rattle.link_model.specs.Notes.{Journal}
use Rattle.frame_model.specs.Frame.{frame_cells}
use Rattle.frame_model.specs.Sending.{Sender, sent_frame}
use Rattle.std.specs.List.{sum_by}
use Rattle.cell_pool.specs.Region.{Line, Region, size, cells_of, len_of, IsLine}
use Rattle.cell_pool.specs.Shares.{ChangesBeside, len_of_all}
use Rattle.cell_pool.proofs.Lines.{apart_empty, length-cells_of, len_of_all-cells}
use Rattle.crossbar_model.specs.Crossbar.{Branches, Crossbar, sent}
use Rattle.fabric.specs.Fabric.{Besides, FabricView, besides, crossbar, free_slots}
use Rattle.frame_model.specs.Reassembly.{Reassembly}
use Rattle.reassembly.specs.Receipt.{Gathering, reassembly_in}
use Rattle.gsmp_switch.specs.Exchange.{AreOneRegion, Store, free_in, store_of}

pub chain_length : (r : Region) (l : Line) → length (cells_of r l) ≡ len_of l
chain_length r l = length-cells_of r l

-- the free slots are those that hold no cell
pub free_is : (f : FabricView) (g : Gathering) → AreOneRegion f g.chain → free_slots f ≡ free_in (store_of f g)
free_is f g is =
    let chain = length-cells_of f.region g.chain in
    let queues = len_of_all-cells f.region f.lines in
    let counted = is.counted in
    omega (arith, chain, queues, counted)

-- a new fabric beside an empty chain
pub opened_region : (f : FabricView) (q : Line) (b : Branches) (n : ℕ) → crossbar f ≡ record { branches = b; queues = replicate 9 [] } → free_slots f ≡ n → size f.region ≡ n → len_of q ≡ 0 → IsLine f.region q → AreOneRegion f q
opened_region f q b n same free all none line =
    let queues = len_of_all-cells f.region f.lines in
    let empty : sum_by (λ cs. length cs) (map (cells_of f.region) f.lines) ≡ 0 = ap (λ (x : Crossbar). sum_by (λ cs. length cs) x.queues) same in
    record {
      threaded = line;
      apart = apart_empty f.region f.lines q none;
      counted = omega (arith, queues, empty, free, all, none);
    }

-- *What the reassembly does beside the queues*

pub one_region : (f g : FabricView) (q r : Line) → AreOneRegion f q → ChangesBeside f.region g.region f.lines q r → g.lines ≡ f.lines → AreOneRegion g r
one_region f g q r is changed same =
    let counted = changed.chain.counted in
    let before = is.counted in
    let same_size = changed.chain.same_size in
    let lines = ap (λ (ls : List Line). len_of_all ls) same in
    record {
      threaded = changed.chain.threaded;
      apart = rw same changed.apart;
      counted = omega (arith, counted, before, same_size, lines);
    }

pub store_after : (f g : FabricView) (p q : Gathering) (after : Reassembly) → ChangesBeside f.region g.region f.lines p.chain q.chain → besides g ≡ besides f → reassembly_in g.region q ≡ after → store_of g q ≡ record (store_of f p) { reassembly = after }
store_after f g p q after changed same is =
    rw (ap (λ (b : Besides). b.ports) same, ap (λ (b : Besides). b.vpis) same, ap (λ (b : Besides). b.crossbar) same, changed.chain.same_size, is) refl

-- *Sending a frame keeps the ports*

sent_by : (b : Bool) (linked : List PortNo) (all none : Sender Store) → all.queues.ports ≡ linked → none.queues.ports ≡ linked → (cond b all none).queues.ports ≡ linked
sent_by true linked all none all_keep none_keep = all_keep
sent_by false linked all none all_keep none_keep = none_keep

pub ports_after_frame : (r : Result Unit OutOfMemory) (port : PortNo) (channel : Channel) (mark : Mark) (payload : List ℕ) (old new : Store) (before after : Journal)
    → OnOk r (record { queues = new; notes = after } ≡ sent_frame (free_in old) (λ cells. record old { crossbar = sent old.crossbar port cells }) (record { queues = old; notes = before }) channel mark payload)
    → OnErr r (new ≡ old) → new.ports ≡ old.ports
ports_after_frame (Ok done) port channel mark payload old new before after is fails =
    ap (λ (s : Sender Store). s.queues.ports) is ∙ sent_by (nat_le (length (frame_cells channel mark payload)) (free_in old)) old.ports _ _ refl refl
ports_after_frame (Err error) port channel mark payload old new before after is fails = ap (λ (x : Store). x.ports) fails

pub on_ok : {T E : Type 0} (r : Result T E) (P Q : Type 0) → (P → Q) → OnOk r P → OnOk r Q
on_ok (Ok value) P Q then is = then is
on_ok (Err error) P Q then is = tt
