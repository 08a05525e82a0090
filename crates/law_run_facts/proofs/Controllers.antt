-- what each input of a controller leaves of marks and frames, and of what its routes lead to

use Rattle.std.proofs.Common.{◌≡◌, ◌≢◌, ℕ, ◌<◌, ◌≤◌, ◌+◌, true, false, List, [], ◌∷◌, ◌++◌, length, Option, None, Some, refl, sym, subst, arith, map, not}
use Rattle.std.specs.Prelude.{nat_le, nat_lt, ◌==◌, ◌&&◌}
use Rattle.std.proofs.lemmas.Bool.Decides.{nat_tests}
use Rattle.law_world_pace.specs.world_model.Words.{PortNo, Channel, Mark, next_control, with_control, Network, Cell, is_same, has_prefix, renewed, changed_by, changed, RouteChange, Next, Frame, Loss, PoolFull, Refusal, payload_of, noted, frame_cells, made, next_mark, Controller, Linked, default_home, default_channel, ForDefault, taker_of, same_channel, sends_control, is_control, inject_refusal}
use Rattle.law_world_pace.specs.world_model.ipv4_forward.declared.table.Route.{Route}
use Rattle.law_world_pace.specs.world_model.frame_model.Sending.{Sender}
use Rattle.law_controller_bindings.specs.ordered_lists.Ordered.{Every}
use Rattle.law_controller_bindings.proofs.ordered_lists.Every.{every_join, every_map, every_mapped, every_all}
use Rattle.law_controller_bindings.proofs.law_port_facts.Keyed.{on_both}
use Rattle.law_world_pace.specs.world_model.Controller.{Acted, free_slots}
use Rattle.law_world_pace.specs.world_model.Sending.{with_cells, sends}
use Rattle.law_controller_bindings.specs.law_controller_facts.Inputs.{Input, CellComes, PacketEnters, Ticks, Restarts, ChangeComes, FrameIsForged, CellLeaves, Meanwhile, enters_unless, takes_input}
use Rattle.law_controller_bindings.proofs.law_controller_facts.Joining.{every_filter}
use Rattle.law_world_pace.proofs.law_actor_pace.Cells.{every_drop}
use Rattle.law_run_facts.specs.Inputs.{IsMark, IsMarked}
use Rattle.law_run_facts.specs.Frames.{IsFree, Stay}
use Rattle.law_run_facts.proofs.Frames.{free_next, free_packet, stay_more}
use Rattle.law_run_facts.proofs.Switches.{AreMarked, mark_later, marked_later, frame_marked, next_is_mark}
use Rattle.law_run_facts.proofs.Takers.{default_of}
use Rattle.law_run_facts.proofs.Walks.{Has}
use Rattle.law_run_facts.proofs.Sending.{change_walk, tick_walk, restart_walk}
use Rattle.law_run_facts.proofs.Coming.{routed_walk, cell_walk}

-- *Where routes lead*: to next hops with a property
module _ (Leads : Next → Type 0) where
  abbrev pub May : Option Next → Type 0
  May None = Unit {0}
  May (Some next) = Leads next

  abbrev pub Table : List Route → Type 0
  Table table = Every (λ (route : Route). Leads route.next) table

  abbrev pub Change : RouteChange → Type 0
  Change change = May change.next

  renews : (prefix : Network) (next : Next) (route : Route) → Leads next → Leads route.next → Leads (renewed prefix next route).next
  renews prefix next route to h = on_both (λ (r : Route). Leads r.next) (is_same route.prefix prefix) (record route { next = next }) route to h

  changes_by : (table : List Route) (prefix : Network) (o : Option Next) → Table table → May o → Table (changed_by table prefix o)
  changes_by table prefix None h to = every_filter (λ (route : Route). Leads route.next) (λ (route : Route). not (is_same route.prefix prefix)) table h
  changes_by table prefix (Some next) h to = on_both Table (has_prefix table prefix) (map (renewed prefix next) table) (table ++ record { prefix = prefix; next = next } ∷ [])
      (every_mapped (renewed prefix next) (λ (route : Route). Leads route.next) table
      (every_map (λ (route : Route). Leads route.next) (λ (route : Route). Leads (renewed prefix next route).next) table (λ route r. renews prefix next route to r) h))
      (every_join (λ (route : Route). Leads route.next) table (record { prefix = prefix; next = next } ∷ []) h (to, tt))

  changes_to : (table : List Route) (change : RouteChange) → Table table → Change change → Table (changed table change)
  changes_to table change h to = changes_by table change.prefix change.next h to

-- *What a controller has*, of what was there first: so many control marks were given out, and these frames were made
module _ (given : ℕ) where
  pub record IsMarkedBy (queue chain : List Cell) (frames : List Frame) (controls : ℕ) : Type 0 where
    pub least : given ≤ controls
    pub waits : AreMarked controls queue
    pub gathered : AreMarked controls chain
    pub free : IsFree controls frames

  -- and the chain of each port's default channel has cells of that channel
  abbrev pub IsTaken : (controls : ℕ) → PortNo → Cell → Type 0
  IsTaken controls port cell = (same_channel cell.header.channel (default_home port).channel ≡ true) × IsMarked controls cell

  abbrev pub IsTakenBy : (controls : ℕ) → PortNo → (chain : List Cell) → Type 0
  IsTakenBy controls port chain = Every (IsTaken controls port) chain

  taken_later : (controls : ℕ) (port : PortNo) (chain : List Cell) → IsTakenBy controls port chain → IsTakenBy (controls + 1) port chain
  taken_later controls port chain h = every_map (IsTaken controls port) (IsTaken (controls + 1) port) chain (λ cell t. (t.0, mark_later controls (controls + 1) (omega arith) cell.mark t.1)) h

  none_taken : (controls : ℕ) (port : PortNo) → IsTakenBy controls port []
  none_taken controls port = tt

  -- *What it leaves*
  module _ (Leads : Next → Type 0) where
    abbrev pub IsLeft : Acted → Type 0
    IsLeft a = Has IsMarkedBy (Table Leads) (Change Leads) IsTakenBy a

    control : (a : Acted) (channel : Channel) (payload : List ℕ) → IsMarkedBy a.controller.queue a.controller.reassembly.chain a.notes.frames a.numbers.controls
        → IsMarkedBy (sends_control a channel payload).controller.queue (sends_control a channel payload).controller.reassembly.chain (sends_control a channel payload).notes.frames (sends_control a channel payload).numbers.controls
    control a channel payload h =
        let mark : Mark = record { packet = 0; frame = a.numbers.controls + 1 } in
        let up : a.numbers.controls ≤ a.numbers.controls + 1 = omega arith in
        on_both (λ (s : Sender Controller). IsMarkedBy s.queues.queue s.queues.reassembly.chain s.notes.frames (a.numbers.controls + 1)) (nat_le (length (frame_cells channel mark payload)) (free_slots a.controller))
        (record { queues = with_cells a.controller (frame_cells channel mark payload); notes = made a.notes mark payload })
        (record { queues = a.controller; notes = noted (made a.notes mark payload) (Loss mark PoolFull) })
        (record {
          least = omega (arith, h.least);
          waits = every_join (IsMarked (a.numbers.controls + 1)) a.controller.queue (frame_cells channel mark payload) (marked_later a.numbers.controls (a.numbers.controls + 1) up a.controller.queue h.waits)
              (frame_marked (a.numbers.controls + 1) channel mark payload (next_is_mark a.numbers.controls));
          gathered = marked_later a.numbers.controls (a.numbers.controls + 1) up a.controller.reassembly.chain h.gathered;
          free = free_next a.numbers.controls a.notes.frames payload h.free;
        })
        (record {
          least = omega (arith, h.least);
          waits = marked_later a.numbers.controls (a.numbers.controls + 1) up a.controller.queue h.waits;
          gathered = marked_later a.numbers.controls (a.numbers.controls + 1) up a.controller.reassembly.chain h.gathered;
          free = free_next a.numbers.controls a.notes.frames payload h.free;
        })

    clear : (queue chain : List Cell) (frames : List Frame) (controls : ℕ) → IsMarkedBy queue chain frames controls → IsMarkedBy queue [] frames controls
    clear queue chain frames controls h = record { least = h.least; waits = h.waits; gathered = tt; free = h.free }

    -- a packet's frame, where the mark that it came under is no control mark's
    not_control : (mark : Mark) → is_control mark ≡ false → IsMark given mark → mark.packet ≢ 0
    not_control mark e is none = absurd (clash (is none).0 none e)
      where
        clash : 0 < mark.frame → mark.packet ≡ 0 → ((mark.packet == 0) && nat_lt 0 mark.frame) ≡ false → ⊥
        clash low zero_packet off = grind (arith, nat_tests, low, zero_packet, off)

    packet : (came : Mark) → IsMark given came → (a : Acted) (channel : Channel) (payload : List ℕ) → is_control came ≡ false
        → IsMarkedBy a.controller.queue a.controller.reassembly.chain a.notes.frames a.numbers.controls
        → IsMarkedBy (sends a channel (next_mark came) payload).controller.queue (sends a channel (next_mark came) payload).controller.reassembly.chain (sends a channel (next_mark came) payload).notes.frames a.numbers.controls
    packet came is a channel payload e h =
        let mark : Mark = next_mark came in
        let no : mark.packet ≢ 0 = not_control came e is in
        on_both (λ (s : Sender Controller). IsMarkedBy s.queues.queue s.queues.reassembly.chain s.notes.frames a.numbers.controls) (nat_le (length (frame_cells channel mark payload)) (free_slots a.controller))
        (record { queues = with_cells a.controller (frame_cells channel mark payload); notes = made a.notes mark payload })
        (record { queues = a.controller; notes = noted (made a.notes mark payload) (Loss mark PoolFull) })
        (record {
          least = h.least;
          waits = every_join (IsMarked a.numbers.controls) a.controller.queue (frame_cells channel mark payload) h.waits (frame_marked a.numbers.controls channel mark payload (λ none. absurd (no none)));
          gathered = h.gathered;
          free = free_packet a.numbers.controls mark a.notes.frames payload no h.free;
        })
        (record { least = h.least; waits = h.waits; gathered = h.gathered; free = free_packet a.numbers.controls mark a.notes.frames payload no h.free })

    gathers : (came : Mark) → IsMark given came → (queue chain : List Cell) (frames : List Frame) (controls : ℕ) (cell : Cell) → cell.mark ≡ came → same_channel cell.header.channel default_channel ≡ true → IsMarkedBy queue chain frames controls → IsMarkedBy queue (chain ++ cell ∷ []) frames controls
    gathers came is queue chain frames controls cell e own h = record {
      least = h.least;
      waits = h.waits;
      gathered = every_join (IsMarked controls) chain (cell ∷ []) h.gathered (λ none. (let k = subst (IsMark given) (sym e) is none in (k.0, omega (arith, k.1, h.least))), tt);
      free = h.free;
    }

    gathers_at : (came : Mark) → IsMark given came → (a : Acted) (linked : Linked) (cell : Cell) → cell.mark ≡ came → taker_of a.controller cell.header.channel ≡ Some (ForDefault linked)
        → IsMarkedBy a.controller.queue a.controller.reassembly.chain a.notes.frames a.numbers.controls
        → IsTakenBy a.numbers.controls linked.setup.port linked.reassembly.chain → IsTakenBy a.numbers.controls linked.setup.port (linked.reassembly.chain ++ cell ∷ [])
    gathers_at came is a linked cell e found h all = every_join (IsTaken a.numbers.controls linked.setup.port) linked.reassembly.chain (cell ∷ []) all
        ((default_of a.controller cell.header.channel linked found, λ none. (let k = subst (IsMark given) (sym e) is none in (k.0, omega (arith, k.1, h.least)))), tt)

    -- *Each input* that comes under marks that were given out
    abbrev pub IsFair : Input → Type 0
    IsFair (CellComes cell) = IsMarked given cell
    IsFair (PacketEnters number octets) = 0 < number
    IsFair Ticks = Unit {0}
    IsFair Restarts = Unit {0}
    IsFair (ChangeComes change) = Change Leads change
    IsFair (FrameIsForged channel mark payload) = ⊥
    IsFair CellLeaves = Unit {0}
    IsFair (Meanwhile notes numbers) = ⊥

    enters : (a : Acted) (number : ℕ) (octets : List ℕ) (o : Option Refusal) → 0 < number → IsLeft a → IsLeft (enters_unless a number octets o)
    enters a number octets (Some refusal) some h = h
    enters a number octets None some h =
        let came : Mark = record { packet = number; frame = 0 } in
        let is : IsMark given came = λ none. absurd (omega (arith, some, none)) in
        routed_walk IsMarkedBy (Table Leads) (Change Leads) IsTakenBy control clear taken_later none_taken (changes_to Leads) came (Unit {0}) (gathers came is) (gathers_at came is) (λ last. packet came is) tt a octets h

    pub input_leaves : (a : Acted) (input : Input) → IsFair input → IsLeft a → IsLeft (takes_input a input)
    input_leaves a (CellComes cell) is h = cell_walk IsMarkedBy (Table Leads) (Change Leads) IsTakenBy control clear taken_later none_taken (changes_to Leads) cell.mark (Unit {0}) (gathers cell.mark is) (gathers_at cell.mark is) (λ last. packet cell.mark is) a cell refl (λ e. tt) h
    input_leaves a (PacketEnters number octets) is h = enters a number octets (inject_refusal octets) is h
    input_leaves a Ticks is h = tick_walk IsMarkedBy (Table Leads) (Change Leads) IsTakenBy control clear taken_later none_taken (changes_to Leads) a h
    input_leaves a Restarts is h = restart_walk IsMarkedBy (Table Leads) (Change Leads) IsTakenBy control clear taken_later none_taken (changes_to Leads) a h
    input_leaves a (ChangeComes change) is h = change_walk IsMarkedBy (Table Leads) (Change Leads) IsTakenBy control clear taken_later none_taken (changes_to Leads) a change is
        (h.0, h.1, every_join (Change Leads) a.controller.waiting (change ∷ []) h.2 (is, tt), h.3)
    input_leaves a (FrameIsForged channel mark payload) is h = absurd is
    input_leaves a CellLeaves is h = (record { least = h.0.least; waits = every_drop (IsMarked a.numbers.controls) 1 a.controller.queue h.0.waits; gathered = h.0.gathered; free = h.0.free }, h.1, h.2, h.3)
    input_leaves a (Meanwhile notes numbers) is h = absurd is

    -- and a forged frame under the next control mark
    pub control_leaves : (a : Acted) (channel : Channel) (payload : List ℕ) → IsLeft a → IsLeft (sends_control a channel payload)
    control_leaves a channel payload h =
        let mark : Mark = record { packet = 0; frame = a.numbers.controls + 1 } in
        let up = every_map (λ (linked : Linked). IsTakenBy a.numbers.controls linked.setup.port linked.reassembly.chain) (λ (linked : Linked). IsTakenBy (a.numbers.controls + 1) linked.setup.port linked.reassembly.chain) a.controller.ports
        (λ linked. taken_later a.numbers.controls linked.setup.port linked.reassembly.chain) h.3 in
        let rest = on_both (λ (s : Sender Controller). Table Leads s.queues.table × Every (Change Leads) s.queues.waiting × Every (λ (linked : Linked). IsTakenBy (a.numbers.controls + 1) linked.setup.port linked.reassembly.chain) s.queues.ports) (nat_le (length (frame_cells channel mark payload)) (free_slots a.controller))
        (record { queues = with_cells a.controller (frame_cells channel mark payload); notes = made a.notes mark payload })
        (record { queues = a.controller; notes = noted (made a.notes mark payload) (Loss mark PoolFull) }) (h.1, h.2, up) (h.1, h.2, up) in
        (control a channel payload h.0, rest.0, rest.1, rest.2)

-- *Frames stay*, where a packet's next frame is the first under its mark
module _ (given : ℕ) (first : List Frame) (free : IsFree given first) where
  pub record IsGrown (queue chain : List Cell) (frames : List Frame) (controls : ℕ) : Type 0 where
    pub least : given ≤ controls
    pub stay : Stay first frames

  abbrev Anything : List Route → Type 0
  Anything table = Unit {0}

  abbrev AnyChange : RouteChange → Type 0
  AnyChange change = Unit {0}

  abbrev AnyChain : (controls : ℕ) → PortNo → (chain : List Cell) → Type 0
  AnyChain controls port chain = Unit {0}

  grown : (a : Acted) (channel : Channel) (mark : Mark) (payload : List ℕ) (controls : ℕ) → payload_of first mark ≡ None → given ≤ controls → Stay first a.notes.frames
      → IsGrown (sends a channel mark payload).controller.queue (sends a channel mark payload).controller.reassembly.chain (sends a channel mark payload).notes.frames controls
  grown a channel mark payload controls none least h = on_both (λ (s : Sender Controller). IsGrown s.queues.queue s.queues.reassembly.chain s.notes.frames controls) (nat_le (length (frame_cells channel mark payload)) (free_slots a.controller))
      (record { queues = with_cells a.controller (frame_cells channel mark payload); notes = made a.notes mark payload })
      (record { queues = a.controller; notes = noted (made a.notes mark payload) (Loss mark PoolFull) })
      (record { least = least; stay = stay_more first a.notes.frames mark payload none h })
      (record { least = least; stay = stay_more first a.notes.frames mark payload none h })

  control_grows : (a : Acted) (channel : Channel) (payload : List ℕ) → IsGrown a.controller.queue a.controller.reassembly.chain a.notes.frames a.numbers.controls
      → IsGrown (sends_control a channel payload).controller.queue (sends_control a channel payload).controller.reassembly.chain (sends_control a channel payload).notes.frames (sends_control a channel payload).numbers.controls
  control_grows a channel payload h =
      grown (record a { numbers = with_control a.numbers }) channel (next_control a.numbers) payload (a.numbers.controls + 1) (free (a.numbers.controls + 1) (omega (arith, h.least))) (omega (arith, h.least)) h.stay

  clear_grows : (queue chain : List Cell) (frames : List Frame) (controls : ℕ) → IsGrown queue chain frames controls → IsGrown queue [] frames controls
  clear_grows queue chain frames controls h = record { least = h.least; stay = h.stay }

  -- the packet whose last cell comes, if one does, has no next frame yet
  abbrev pub IsNextFree : Mark → Type 0
  IsNextFree came = is_control came ≡ false → payload_of first (next_mark came) ≡ None

  abbrev pub IsNewest : Input → Type 0
  IsNewest (CellComes cell) = cell.header.last ≡ true → IsNextFree cell.mark
  IsNewest (PacketEnters number octets) = IsNextFree (record { packet = number; frame = 0 })
  IsNewest Ticks = Unit {0}
  IsNewest Restarts = Unit {0}
  IsNewest (ChangeComes change) = Unit {0}
  IsNewest (FrameIsForged channel mark payload) = ⊥
  IsNewest CellLeaves = Unit {0}
  IsNewest (Meanwhile notes numbers) = ⊥

  all_any : (changes : List RouteChange) → Every AnyChange changes
  all_any [] = tt
  all_any (change ∷ changes) = (tt, all_any changes)

  -- *Each input*
  module _ (a : Acted) (is : given ≡ a.numbers.controls) (frames : first ≡ a.notes.frames) where
    begin : IsGrown a.controller.queue a.controller.reassembly.chain a.notes.frames a.numbers.controls
    begin = record { least = omega (arith, is); stay = subst (Stay first) frames (λ mark payload e. e) }

    has : Has IsGrown Anything AnyChange AnyChain a
    has = (begin, tt, all_any a.controller.waiting, every_all (λ (linked : Linked). Unit {0}) a.controller.ports (λ linked. tt))

    packet_grows : (came : Mark) → IsNextFree came → (b : Acted) (channel : Channel) (payload : List ℕ) → is_control came ≡ false
        → IsGrown b.controller.queue b.controller.reassembly.chain b.notes.frames b.numbers.controls
        → IsGrown (sends b channel (next_mark came) payload).controller.queue (sends b channel (next_mark came) payload).controller.reassembly.chain (sends b channel (next_mark came) payload).notes.frames b.numbers.controls
    packet_grows came newest b channel payload e h = grown b channel (next_mark came) payload b.numbers.controls (newest e) h.least h.stay

    gathers_grow : (came : Mark) (queue chain : List Cell) (fs : List Frame) (controls : ℕ) (cell : Cell) → cell.mark ≡ came → same_channel cell.header.channel default_channel ≡ true → IsGrown queue chain fs controls → IsGrown queue (chain ++ cell ∷ []) fs controls
    gathers_grow came queue chain fs controls cell e own h = record { least = h.least; stay = h.stay }

    enters_grow : (number : ℕ) (octets : List ℕ) (o : Option Refusal) → IsNextFree (record { packet = number; frame = 0 }) → Has IsGrown Anything AnyChange AnyChain (enters_unless a number octets o)
    enters_grow number octets (Some refusal) newest = has
    enters_grow number octets None newest = (let came : Mark = record { packet = number; frame = 0 } in
        routed_walk IsGrown Anything AnyChange AnyChain control_grows clear_grows (λ controls port chain h. tt) (λ controls port. tt) (λ table change h k. tt) came (Unit {0}) (gathers_grow came) (λ b linked c e found h all. tt) (λ last. packet_grows came newest) tt a octets has)

    pub input_stays : (input : Input) → IsNewest input → Stay first (takes_input a input).notes.frames
    input_stays (CellComes cell) newest = (cell_walk IsGrown Anything AnyChange AnyChain control_grows clear_grows (λ controls port chain h. tt) (λ controls port. tt) (λ table change h k. tt) cell.mark (cell.header.last ≡ true) (gathers_grow cell.mark) (λ b linked c e found h all. tt) (λ last. packet_grows cell.mark (newest last)) a cell refl (λ e. e) has).0.stay
    input_stays (PacketEnters number octets) newest = (enters_grow number octets (inject_refusal octets) newest).0.stay
    input_stays Ticks newest = (tick_walk IsGrown Anything AnyChange AnyChain control_grows clear_grows (λ controls port chain h. tt) (λ controls port. tt) (λ table change h k. tt) a has).0.stay
    input_stays Restarts newest = (restart_walk IsGrown Anything AnyChange AnyChain control_grows clear_grows (λ controls port chain h. tt) (λ controls port. tt) (λ table change h k. tt) a has).0.stay
    input_stays (ChangeComes change) newest = (change_walk IsGrown Anything AnyChange AnyChain control_grows clear_grows (λ controls port chain h. tt) (λ controls port. tt) (λ table change h k. tt) a change tt
        (record { least = begin.least; stay = begin.stay }, tt, all_any (a.controller.waiting ++ change ∷ []), every_all (λ (linked : Linked). Unit {0}) a.controller.ports (λ linked. tt))).0.stay
    input_stays (FrameIsForged channel mark payload) newest = absurd newest
    input_stays CellLeaves newest = begin.stay
    input_stays (Meanwhile notes numbers) newest = absurd newest

    pub control_stays : (channel : Channel) (payload : List ℕ) → Stay first (sends_control a channel payload).notes.frames
    control_stays channel payload = (control_grows a channel payload begin).stay
