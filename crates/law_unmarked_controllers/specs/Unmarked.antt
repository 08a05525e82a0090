-- A network without what is only for the ledger: the marks of cells, the notes, and what is counted for them

use Rattle.std.specs.Prelude.{List, [], map, filter_map, Option, None, Some}
use Rattle.std.specs.FinMap.{entries, from_sorted}
use Rattle.world_model.specs.Words.{Mark, GivenOut, Cell, Record, Delivered, Dropped, Refused, Loss, Chance, Journal, Reassembly, Branches, Crossbar, Switch, LabelChain, Linked, Controller, World, Site, no_tally}
use Rattle.world_model.specs.crossbar_model.declared.branch.Branch.{Branch}
use Rattle.world_model.specs.Controller.{Acted}

-- *Cells* under one mark, whichever frames they are of
abbrev pub no_mark : Mark
no_mark = record { packet = 0; frame = 0 }

abbrev pub unmarked_cell : Cell → Cell
unmarked_cell cell = record cell { mark = no_mark }

abbrev pub unmarked_cells : List Cell → List Cell
unmarked_cells cells = map unmarked_cell cells

-- *The notes*: none. Of the numbers given out the instances stay, which are parties' names; the marks are as none was drawn
abbrev pub no_notes : Journal
no_notes = record { records = []; entries = []; frames = [] }

abbrev pub unmarked_numbers : GivenOut → GivenOut
unmarked_numbers numbers = record numbers { controls = 0 }

-- *A controller*: the cells of its chains and of its queue
abbrev pub unmarked_reassembly : Reassembly → Reassembly
unmarked_reassembly r = record r { chain = unmarked_cells r.chain }

abbrev pub unmarked_chain : LabelChain → LabelChain
unmarked_chain chain = record chain { reassembly = unmarked_reassembly chain.reassembly }

abbrev pub unmarked_linked : Linked → Linked
unmarked_linked linked =
    record linked { reassembly = unmarked_reassembly linked.reassembly; chains = map unmarked_chain linked.chains }

abbrev pub unmarked_controller : Controller → Controller
unmarked_controller c = record c {
  reassembly = unmarked_reassembly c.reassembly;
  ports = map unmarked_linked c.ports;
  queue = unmarked_cells c.queue;
}

-- *A switch*: the cells of its queues and of its chain, and the mark that a branch keeps of the frame that is open on it
abbrev pub unmarked_branch : Branch → Branch
unmarked_branch branch = record branch { unfinished = None }

-- the inputs stay, in their order, and so each input that has a branch keeps one
abbrev pub unmarked_branches : Branches → Branches
unmarked_branches m = from_sorted (map (λ e. (e.0, unmarked_branch e.1)) (entries m))

abbrev pub unmarked_crossbar : Crossbar → Crossbar
unmarked_crossbar x = record { branches = unmarked_branches x.branches; queues = map unmarked_cells x.queues }

abbrev pub unmarked_switch : Switch → Switch
unmarked_switch s = record s { crossbar = unmarked_crossbar s.crossbar; reassembly = unmarked_reassembly s.reassembly }

-- *What the actors recorded*, without the numbers of packets: what is delivered, with its octets, and all else but losses and
-- chances, which are the ledger's
abbrev pub unmarked_record : Record → Option Record
unmarked_record (Loss mark cause) = None
unmarked_record (Chance mark) = None
unmarked_record (Delivered node packet octets) = Some (Delivered node 0 octets)
unmarked_record (Dropped node packet cause) = Some (Dropped node 0 cause)
unmarked_record (Refused node packet name) = Some (Refused node 0 name)
unmarked_record item = Some item

abbrev pub unmarked_records : List Record → List Record
unmarked_records records = filter_map unmarked_record records

-- notes of which nothing else is left
abbrev pub shown : Journal → Journal
shown notes = record { records = unmarked_records notes.records; entries = []; frames = [] }

-- *A controller in a run*, and what it recorded
abbrev pub bare : Acted → Acted
bare a = record { controller = unmarked_controller a.controller; notes = shown a.notes; numbers = unmarked_numbers a.numbers }

-- *A world*: the marks of packets are drawn from how many were sent, and the tally is of records. All else is as it was
abbrev pub unmarked_site : Site → Site
unmarked_site site = record { controller = unmarked_controller site.controller; switch = unmarked_switch site.switch }

abbrev pub unmarked : World → World
unmarked w = record w {
  sites = map unmarked_site w.sites;
  notes = no_notes;
  numbers = unmarked_numbers w.numbers;
  sent = 0;
  tally = no_tally;
}
