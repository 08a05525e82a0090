-- cells on the way: what they are of stays, while frames are made and a run goes on

use Rattle.std.proofs.Common.{◌≡◌, ℕ, ◌+◌, ◌<◌, ◌≤◌, List, [], ◌∷◌, ◌++◌, length, take, slice_get, Some, refl, sym, ◌∙◌, ap, subst, arith}
use Rattle.std.specs.Prelude.{◌/◌}
use Rattle.std.specs.List.{range_with_len}
use Rattle.world_model.specs.Words.{Greeting, Channel, Mark, Cell, Request, payload_of, frame_cells, message_of, gsmp_channel}
use Rattle.aal5_frames.specs.Frame.{cells_with, cell_of, pdu_of}
use Rattle.world_model.specs.gsmp_wire.declared.message.Message.TheVariants as messages
use Rattle.world_model.specs.gsmp_wire.declared.request.Request.TheVariants.{AllPorts}
use Rattle.world_model.specs.gsmp_wire.Layout.{octets_of}
use Rattle.ordered_lists.specs.Ordered.{Every}
use Rattle.ordered_lists.proofs.Every.{every_map, every_mapped, every_all}
use Rattle.law_console.proofs.Frames.{made_is, made_elsewhere}
use Rattle.console_model.specs.Plain.{answer, map_after}
use Rattle.law_console.specs.Words.{first_rows, Course, SuitsList, SuitsCommand, IsAsked, greeting_asked, list_asked, command_asked, Tells, IsTold, greeting_told, list_told, answer_told, Made, IsOf, Answers, AreAsked}

-- *Frames are made* under new marks
pub record Grows (a b : Made) : Type 0 where
  pub kept : (mark : Mark) (payload : List ℕ) → mark.frame ≤ a.controls → payload_of a.frames mark ≡ Some payload → payload_of b.frames mark ≡ Some payload
  pub controls : a.controls ≤ b.controls

pub no_more : (a : Made) → Grows a a
no_more a = record { kept = λ mark payload early e. e; controls = omega arith }

abbrev pub next_mark : (controls : ℕ) → Mark
next_mark controls = record { packet = 0; frame = controls + 1 }

abbrev pub with_frame : Made → (payload : List ℕ) → Made
with_frame a payload = record { frames = a.frames ++ record { mark = next_mark a.controls; payload = payload } ∷ []; controls = a.controls + 1 }

pub one_more : (a : Made) (payload : List ℕ) → Grows a (with_frame a payload)
one_more a payload = record {
  kept = λ mark old early e. made_elsewhere a.frames (next_mark a.controls) mark payload
      (λ same. (let clash : a.controls + 1 ≡ mark.frame = ap (λ (m : Mark). m.frame) same in omega (arith, clash, early))) ∙ e;
  controls = omega arith;
}

pub of_on : (a b : Made) → Grows a b → (payload : List ℕ) (cell : Cell) → IsOf a payload cell → IsOf b payload cell
of_on a b g payload cell is = record { channel = is.channel; kept = g.kept cell.mark payload is.early is.kept; early = omega (arith, is.early, g.controls) }

-- the cells of a new frame
frame_is : (channel : Channel) (mark : Mark) (payload : List ℕ) → Every (λ (c : Cell). (c.header.channel ≡ channel) × (c.mark ≡ mark)) (frame_cells channel mark payload)
unfolding cells_with
frame_is channel mark payload = every_mapped (cell_of channel mark (pdu_of payload)) (λ (c : Cell). (c.header.channel ≡ channel) × (c.mark ≡ mark)) (range_with_len 0 (length (pdu_of payload) / 48))
    (every_all (λ k. ((cell_of channel mark (pdu_of payload) k).header.channel ≡ channel) × ((cell_of channel mark (pdu_of payload) k).mark ≡ mark)) (range_with_len 0 (length (pdu_of payload) / 48)) (λ k. (refl, refl)))

pub new_of : (a : Made) (payload : List ℕ) → Every (IsOf (with_frame a payload) payload) (frame_cells gsmp_channel (next_mark a.controls) payload)
new_of a payload = every_map (λ (c : Cell). (c.header.channel ≡ gsmp_channel) × (c.mark ≡ next_mark a.controls)) (IsOf (with_frame a payload) payload) (frame_cells gsmp_channel (next_mark a.controls) payload)
    (λ cell is. record {
      channel = is.0;
      kept = ap (payload_of (with_frame a payload).frames) is.1 ∙ made_is a.frames (next_mark a.controls) payload;
      early = (let frame : cell.mark.frame ≡ a.controls + 1 = ap (λ (m : Mark). m.frame) is.1 in omega (arith, frame));
    })
    (frame_is gsmp_channel (next_mark a.controls) payload)

-- *A run goes on*
pub record Goes (c d : Course) : Type 0 where
  pub commands : (place : ℕ) (q : Request) → slice_get c.commands place ≡ Some q → slice_get d.commands place ≡ Some q
  pub before : (place : ℕ) (q : Request) → slice_get c.commands place ≡ Some q → take place d.commands ≡ take place c.commands
  pub answered : c.answered ≤ d.answered
  pub carried : c.carried ≤ d.carried
  pub next : c.next ≤ d.next
  pub list : (number : ℕ) → number < c.next → SuitsList c.stood number → SuitsList d.stood number
  pub command : (number place : ℕ) → number < c.next → SuitsCommand c.stood c.answered number place → SuitsCommand d.stood d.answered number place

pub stays : (c : Course) → Goes c c
stays c = record {
  commands = λ place q e. e;
  before = λ place q e. refl;
  answered = omega arith;
  carried = omega arith;
  next = omega arith;
  list = λ number low suits. suits;
  command = λ number place low suits. suits;
}

module _ (ports : ℕ) where
  asked_on : (c d : Course) → Goes c d → (low after : ℕ) (payload : List ℕ) → IsAsked ports c low after payload → IsAsked ports d low after payload
  asked_on c d g low after payload (greeting_asked greeting e f) = greeting_asked greeting e f
  asked_on c d g low after payload (list_asked number e early suits f) = list_asked number e (omega (arith, early, g.next)) (g.list number early suits) f
  asked_on c d g low after payload (command_asked number place q e least most early suits command f) =
      command_asked number place q e least (omega (arith, most, g.answered)) (omega (arith, early, g.next)) (g.command number place early suits) (g.commands place q command) f

  told_on : (c d : Course) → Goes c d → (payload : List ℕ) → IsTold ports c payload → IsTold ports d payload
  told_on c d g payload (greeting_told greeting f) = greeting_told greeting f
  told_on c d g payload (list_told number early suits f) = list_told number (omega (arith, early, g.next)) (g.list number early suits) f
  told_on c d g payload (answer_told number place q message carried early suits command tells f) =
      answer_told number place q message (omega (arith, carried, g.carried)) (omega (arith, early, g.next)) (g.command number place early suits) (g.commands place q command)
      (subst (λ (commands : List Request). Tells q number (answer ports (map_after ports commands) q) message) (sym (g.before place q command)) tells) f

  module _ (c d : Course) (a b : Made) (goes : Goes c d) (grows : Grows a b) where
    pub asks_on : (cells : List Cell) (low : ℕ) → AreAsked ports c a low cells → AreAsked ports d b low cells
    asks_on [] low h = tt
    asks_on (cell ∷ cells) low h =
        (h.0, (record { payload = h.1.0.payload; of = of_on a b grows h.1.0.payload cell h.1.0.of; asked = asked_on c d goes low h.0 h.1.0.payload h.1.0.asked }, asks_on cells h.0 h.1.1))

    pub answers_on : (cells : List Cell) → Every (Answers ports c a) cells → Every (Answers ports d b) cells
    answers_on cells h = every_map (Answers ports c a) (Answers ports d b) cells
        (λ cell t. record { payload = t.payload; of = of_on a b grows t.payload cell t.of; told = told_on c d goes t.payload t.told }) h

  module _ (c : Course) (made : Made) where
    -- *A cell is passed over*: what the switch had carried out before it is enough for those behind it
    record Passes (low after : ℕ) (payload : List ℕ) : Type 0 where
      then : ℕ
      least : then ≤ after
      asked : IsAsked ports c low then payload

    passes : (low high after : ℕ) (payload : List ℕ) → low ≤ high → IsAsked ports c high after payload → Passes low after payload
    passes low high after payload less (greeting_asked greeting e f) = record { then = low; least = omega (arith, less, e); asked = greeting_asked greeting refl f }
    passes low high after payload less (list_asked number e early suits f) = record { then = low; least = omega (arith, less, e); asked = list_asked number refl early suits f }
    passes low high after payload less (command_asked number place q e least most early suits command f) =
        record { then = after; least = omega arith; asked = command_asked number place q e (omega (arith, less, least)) most early suits command f }

    pub lowered : (cells : List Cell) (low high : ℕ) → low ≤ high → AreAsked ports c made high cells → AreAsked ports c made low cells
    lowered [] low high less h = tt
    lowered (cell ∷ cells) low high less h =
        let p : Passes low h.0 h.1.0.payload = passes low high h.0 h.1.0.payload less h.1.0.asked in
        (p.then, (record { payload = h.1.0.payload; of = h.1.0.of; asked = p.asked }, lowered cells p.then h.0 p.least h.1.1))

    pub rises : (low after : ℕ) (payload : List ℕ) → IsAsked ports c low after payload → low ≤ after
    rises low after payload (greeting_asked greeting e f) = omega (arith, e)
    rises low after payload (list_asked number e early suits f) = omega (arith, e)
    rises low after payload (command_asked number place q e least most early suits command f) = omega (arith, e, least)

    -- *A frame is sent* behind them
    reaches : (low after : ℕ) (payload : List ℕ) → low ≤ c.answered + 1 → IsAsked ports c low after payload → after ≤ c.answered + 1
    reaches low after payload few (greeting_asked greeting e f) = omega (arith, few, e)
    reaches low after payload few (list_asked number e early suits f) = omega (arith, few, e)
    reaches low after payload few (command_asked number place q e least most early suits command f) = omega (arith, most, e)

    abbrev pub MayAsk : List ℕ → Type 0
    MayAsk payload = (low : ℕ) → low ≤ c.answered + 1 → (after : ℕ) × IsAsked ports c low after payload

    whole_frame : (payload : List ℕ) → MayAsk payload → (cells : List Cell) → Every (IsOf made payload) cells → (low : ℕ) → low ≤ c.answered + 1 → AreAsked ports c made low cells
    whole_frame payload may [] each low few = tt
    whole_frame payload may (cell ∷ cells) each low few =
        let m : (after : ℕ) × IsAsked ports c low after payload = may low few in
        (m.0, (record { payload = payload; of = each.0; asked = m.1 }, whole_frame payload may cells each.1 m.0 (reaches low m.0 payload few m.1)))

    pub sent_behind : (payload : List ℕ) → MayAsk payload → (more : List Cell) → Every (IsOf made payload) more → (cells : List Cell) (low : ℕ) → low ≤ c.answered + 1
        → AreAsked ports c made low cells → AreAsked ports c made low (cells ++ more)
    sent_behind payload may more each [] low few h = whole_frame payload may more each low few
    sent_behind payload may more each (cell ∷ cells) low few h =
        (h.0, (h.1.0, sent_behind payload may more each cells h.0 (reaches low h.0 h.1.0.payload few h.1.0.asked) h.1.1))

    -- *What may be asked*
    pub greeting_may : (g : Greeting) → MayAsk (octets_of (messages.Adjacency g))
    greeting_may g low few = (low, greeting_asked g refl refl)

    pub list_may : (number : ℕ) → number < c.next → SuitsList c.stood number → MayAsk (octets_of (message_of (first_rows ports) number AllPorts))
    list_may number early suits low few = (low, list_asked number refl early suits refl)

    pub command_may : (number : ℕ) (q : Request) → number < c.next → SuitsCommand c.stood c.answered number c.answered → slice_get c.commands c.answered ≡ Some q
        → MayAsk (octets_of (message_of (first_rows ports) number q))
    command_may number q early suits command low few = (c.answered + 1, command_asked number c.answered q refl few (omega arith) early suits command refl)
