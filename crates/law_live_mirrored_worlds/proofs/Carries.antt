-- a carry to the switch of a mirrored node

use Rattle.std.proofs.Common.{◌≡◌, ℕ, ◌&&◌, Bool, true, false, true≢false, List, [], ◌∷◌, Some, Result, Ok, refl, sym, ◌∙◌, ap, subst}
use Rattle.std.specs.Prelude.{drop}
use Rattle.world_model.specs.Words.{NodeId, Down, End, Mark, Cell, Frame, payload_of, has_entry, is_estab, control_port, default_channel, gsmp_channel, same_channel, Switch, is_request, frame_read, Topology, World, Site, site_at, queue_at, with_queue_in, carries_head, put_away, next, CountsAsItsFrame}
use Rattle.world_model.specs.gsmp_wire.declared.fault.Fault.{Fault}
use Rattle.world_model.specs.gsmp_wire.declared.message.Message.{Message}
use Rattle.world_model.specs.gsmp_wire.Fields.{decoded}
use Rattle.world_model.specs.switch_model.declared.request.Asked.{Asked}
use Rattle.world_model.specs.network_model.declared.event.Event.TheVariants.{Carry}
use Rattle.world_model.specs.Conduct.{message_heard}
use Rattle.world_model.specs.Switch.{ActedSwitch}
use Rattle.law_port_facts.specs.ordered_lists.Ordered.{Every}
use Rattle.law_port_facts.proofs.ordered_lists.Every.{every_map}
use Rattle.law_live_hearing.specs.Law.{acting_switch, SwitchHears}
use Rattle.law_live_hearing.proofs.Sites.{switching, down_now, down_site, queue_of_site}
use Rattle.law_live_hearing.proofs.Hearing.{switch_hears}
use Rattle.law_live_control.specs.Calm.{IsCarriedOut}
use Rattle.law_live_orders.specs.Law.{is_last_on, last_marks}
use Rattle.law_live_orders.specs.Slots.{IsUnlost}
use Rattle.law_live_orders.proofs.Marks.{channel_is, marks_here, marks_there}
use Rattle.law_live_orders.proofs.Switches.{first, second}
use Rattle.law_live_mirrors.specs.Mirrors.{Mirrors}
use Rattle.law_live_mirrors.specs.Fit.{IsFit}
use Rattle.law_live_mirrors.specs.Law.{IsHeard, LeadsSame}
use Rattle.law_live_mirrors.proofs.Switches.{switches_carry_out}
use Rattle.law_live_mirrored_worlds.specs.Way.{Asks, AsksNothing, AreAsked, none, asking, passed, requests_of, IsMirroredSite, IsMirroredBy}
use Rattle.law_live_mirrored_worlds.specs.Law.{FramesStay, SwitchIsUp, RestsMirror, MirrorsCarryOut, TakesOff, first as first_taken, nothing, Leaves, IsMirroredBehind, CarriesDownMirror}
use Rattle.law_live_mirrored_worlds.proofs.Asking.{asked_later}
use Rattle.law_live_mirrored_worlds.proofs.Switches.{parts_lead, lead_then, cell_leads, frame_leads}
use Rattle.law_live_mirrored_worlds.proofs.Sites.{one_site, at_site, popped_mirrored, stays_mirrored, unchanged}

one_payload : (x y : List ℕ) → Some x ≡ Some y → x ≡ y
one_payload x y e = cc

one_message : (m n : Message) → ◌≡◌ {A = Result Message Fault} (Ok m) (Ok n) → m ≡ n
one_message m n e = cc

both : (x y : Bool) → x ≡ true → y ≡ true → (x && y) ≡ true
both true y p q = q
both false y p q = absurd (true≢false (sym p))

not_last : (x y : Bool) → (x && y) ≡ false → y ≡ true → x ≡ false
not_last true y e on = absurd (true≢false (sym on ∙ e))
not_last false y e on = refl

-- *At rest*
pub rests_mirror : RestsMirror
rests_mirror w node site found empty mirrors = record {
  site = site;
  found = found;
  mirrored = record {
    waits = subst (λ (q : List Cell). AreAsked w.notes.frames (last_marks default_channel q) []) (sym empty ∙ queue_of_site w node site (Down node) found) none;
    fit = tt;
    mirrors = mirrors;
  };
}

-- *The request that comes next* is the first on the way
module _ (w : World) (site : Site) (up : is_estab site.switch.adjacency.state ≡ true) (payload : List ℕ) (message : Message) (read : decoded payload ≡ Ok message)
    (request : is_request message ≡ true) where
  carried_by : (mark : Mark) (marks : List Mark) (way : List Asked) → AreAsked w.notes.frames (mark ∷ marks) way → payload_of w.notes.frames mark ≡ Some payload → Every (IsFit site.switch) way
      → ((input : End) → Mirrors site.controller.ports site.controller.desk site.switch.crossbar.branches (requests_of way) input) → IsCarriedOut site.switch message
  carried_by mark marks (asked ∷ left) (asking own one is later) made fit mirrors =
      let heard : IsHeard site.controller.ports site.controller.desk (switching w site) (message_heard (switching w site) is.message) is.message one (requests_of left) =
      switches_carry_out site.controller.ports site.controller.desk (switching w site) is.message one (requests_of left)
      (record { up = up; request = is.request; asks = is.asks; fit = fit.0; mirrors = λ input on. mirrors input }) in
      subst (IsCarriedOut site.switch) (one_message is.message message (sym is.read ∙ (ap decoded (one_payload is.payload payload (sym is.made ∙ made)) ∙ read))) heard.carried
  carried_by mark marks way (passed own is later) made fit mirrors =
      absurd (true≢false (sym request ∙ is.no_request message (ap decoded (one_payload is.payload payload (sym is.made ∙ made)) ∙ read)))

pub mirrors_carry_out : MirrorsCarryOut
mirrors_carry_out w node up mirrored site cell cells payload message found queue last on made read request =
    let h : IsMirroredSite w.notes.frames site mirrored.way = at_site w node site mirrored.way found mirrored.by in
    let own : site.controller.queue ≡ cell ∷ cells = sym (queue_of_site w node site (Down node) found) ∙ queue in
    let here : last_marks default_channel site.controller.queue ≡ cell.mark ∷ last_marks default_channel cells =
    ap (last_marks default_channel) own ∙ marks_here default_channel cell cells (both cell.header.last (same_channel cell.header.channel default_channel) last on) in
    carried_by w site (up site found) payload message read request cell.mark (last_marks default_channel cells) mirrored.way
    (subst (λ (marks : List Mark). AreAsked w.notes.frames marks mirrored.way) here h.waits) made h.fit h.mirrors

-- *A cell is carried to the switch*
module _ (topology : Topology) (w : World) (node : NodeId) (stays : FramesStay topology w (Carry (Down node))) (way : List Asked) where
  abbrev v : World
  v = next topology w (Carry (Down node))

  abbrev frames : List Frame
  frames = w.notes.frames

  module _ (site : Site) (found : site_at w node ≡ Some site) (h : IsMirroredSite frames site way) (cell : Cell) (cells : List Cell) (queue : queue_at w (Down node) ≡ cell ∷ cells) where
    abbrev popped : Site
    popped = with_queue_in site (Down node) cells

    own_queue : site.controller.queue ≡ cell ∷ cells
    own_queue = sym (queue_of_site w node site (Down node) found) ∙ queue

    behind_head : (left : List Asked) → TakesOff frames cell way left → IsMirroredBy v node left → IsMirroredBehind topology w node way
    behind_head left takes by = record { left = left; leaves = subst (λ (q : List Cell). Leaves frames q way left) (sym queue) takes; mirrored = by }

    -- that ends no frame on the GSMP channel
    early : is_last_on default_channel cell ≡ false → IsMirroredBehind topology w node way
    early apart = behind_head way (nothing way (λ last. absurd (true≢false (sym last ∙ apart))))
        (stays_mirrored w v node popped (down_now topology w node site found cell cells) stays (down_site topology w node site found cell cells queue)
        (cell_leads (switching w site) control_port cell (not_last cell.header.last (same_channel cell.header.channel default_channel) apart)) way refl
        (popped_mirrored frames node site way cells (ap (last_marks default_channel) own_queue ∙ marks_there default_channel cell cells apart) h))

    -- that ends one
    module _ (ends : is_last_on default_channel cell ≡ true) (up : is_estab site.switch.adjacency.state ≡ true) (counts : CountsAsItsFrame w (Carry (Down node)))
        (unlost : has_entry v.notes.entries cell.mark ≡ false) where
      abbrev a : ActedSwitch
      a = acting_switch w site

      abbrev now : (payload : List ℕ) → Site
      now payload = record popped { switch = (frame_read a (decoded payload)).switch }

      emptied : LeadsSame site.switch a.switch
      emptied = parts_lead site.switch a.switch refl refl refl

      heard_at : (payload : List ℕ) → payload_of frames cell.mark ≡ Some payload → site_at v node ≡ Some (now payload)
      heard_at payload made = by (switch_hears topology w node site found cell cells queue (first cell.header.last (same_channel cell.header.channel default_channel) ends)
          (channel_is cell.header.channel gsmp_channel (second cell.header.last (same_channel cell.header.channel default_channel) ends)) payload made counts unlost)
        where
          by : SwitchHears topology w node cell.mark payload → site_at v node ≡ Some (now payload)
          by s = s.acts
              ∙ (ap (λ (x : Site). Some (record (with_queue_in x (Down node) (drop 1 (queue_at w (Down node)))) { switch = (frame_read (acting_switch w x) (decoded payload)).switch })) (one_site s.site site (sym s.found ∙ found))
              ∙ ap (λ (q : List Cell). Some (record (with_queue_in site (Down node) (drop 1 q)) { switch = (frame_read a (decoded payload)).switch })) queue)

      -- which asks nothing
      nothing_heard : AsksNothing frames cell.mark → AreAsked frames (last_marks default_channel cells) way → IsMirroredBehind topology w node way
      nothing_heard is later = behind_head way (nothing way (λ last. is))
          (stays_mirrored w v node popped (now is.payload) stays (heard_at is.payload is.made)
          (lead_then site.switch a.switch (now is.payload).switch emptied (frame_leads a is.payload is.no_request)) way refl
          (record { waits = later; fit = h.fit; mirrors = h.mirrors }))

      -- or asks the first on the way
      module _ (asked : Asked) (left : List Asked) (first_is : way ≡ asked ∷ left) (is : Asks frames cell.mark asked) (later : AreAsked frames (last_marks default_channel cells) left) where
        then_first : IsMirroredSite frames site (asked ∷ left)
        then_first = subst (IsMirroredSite frames site) first_is h

        heard : IsHeard site.controller.ports site.controller.desk a (message_heard a is.message) is.message asked (requests_of left)
        heard = switches_carry_out site.controller.ports site.controller.desk a is.message asked (requests_of left)
            (record { up = up; request = is.request; asks = is.asks; fit = emptied.fit asked then_first.fit.0; mirrors = λ input on. then_first.mirrors input })

        record IsSo (after : Switch) : Type 0 where
          fit : (other : Asked) → IsFit site.switch other → IsFit after other
          mirrors : (input : End) → Mirrors site.controller.ports site.controller.desk after.crossbar.branches (requests_of left) input

        is_so : IsSo (frame_read a (decoded is.payload)).switch
        is_so = subst (λ (r : Result Message Fault). IsSo (frame_read a r).switch) (sym is.read)
            (record { fit = λ other fit. heard.fit other (emptied.fit other fit); mirrors = λ input. heard.mirrors input (then_first.mirrors input) })

        first_heard : IsMirroredBehind topology w node way
        first_heard = behind_head left (subst (λ (x : List Asked). TakesOff frames cell x left) (sym first_is) (first_taken asked left ends is)) (record {
          site = now is.payload;
          found = heard_at is.payload is.made;
          mirrored = record {
            waits = asked_later frames v.notes.frames stays (last_marks default_channel cells) left later;
            fit = every_map (IsFit site.switch) (IsFit (now is.payload).switch) left is_so.fit then_first.fit.1;
            mirrors = is_so.mirrors;
          };
        })

      by_first : (mark : Mark) (rest : List Asked) → mark ≡ cell.mark → rest ≡ way → AreAsked frames (mark ∷ last_marks default_channel cells) rest → IsMirroredBehind topology w node way
      by_first mark (asked ∷ left) same whole (asking own one is later) = first_heard one left (sym whole) (subst (λ (m : Mark). Asks frames m one) same is) later
      by_first mark rest same whole (passed own is later) = nothing_heard (subst (AsksNothing frames) same is) (subst (AreAsked frames (last_marks default_channel cells)) whole later)

      ended : IsMirroredBehind topology w node way
      ended = by_first cell.mark way refl refl (subst (λ (marks : List Mark). AreAsked frames marks way) (ap (last_marks default_channel) own_queue ∙ marks_here default_channel cell cells ends) h.waits)

  pub carried_down : SwitchIsUp w node → CountsAsItsFrame w (Carry (Down node)) → IsUnlost topology w (Down node) → IsMirroredBy w node way → IsMirroredBehind topology w node way
  carried_down up counts unlost by = by_queue (queue_at w (Down node)) refl
    where
      by_queue : (q : List Cell) → queue_at w (Down node) ≡ q → IsMirroredBehind topology w node way
      by_queue [] is = record {
        left = way;
        leaves = subst (λ (q : List Cell). Leaves frames q way way) (sym is) refl;
        mirrored = unchanged w v node way stays (ap (λ (q : List Cell). site_at (carries_head topology (put_away w) (Down node) q) node) is) by;
      }
      by_queue (cell ∷ cells) is = by_end (is_last_on default_channel cell) refl
        where
          by_end : (b : Bool) → is_last_on default_channel cell ≡ b → IsMirroredBehind topology w node way
          by_end true ends = ended by.site by.found by.mirrored cell cells is ends (up by.site by.found) counts (unlost cell cells is)
          by_end false apart = early by.site by.found by.mirrored cell cells is apart

pub carries_down_mirror : CarriesDownMirror
carries_down_mirror topology w node way up counts unlost stays by = carried_down topology w node stays way up counts unlost by
