-- What is said on each way of a link, and of a switch, is in the order of its numbers

use Rattle.std.specs.Prelude.{◌≡◌, ◌==◌, ◌<◌, ◌≤◌, ℕ, Bool, true, false, List, Option, Some}
use Rattle.std.specs.Option.{option_and_then}
use Rattle.world_model.specs.Words.{Request, AddBranch, MoveBranch, DeleteTree, same_end, Controller, Linked, linked_at, is_in_range, label_end, Mark, Cell, Frame, World, on_default_channel, ifmp_under, Numbered, IsNotOverdue, IsKnownRightly, Standing, default_channel, copy_under, Past, Way, IsWay, End, NodeId, Estab, Site, site_at, to_switch, on_channel}
use Rattle.world_model.specs.gsmp_wire.declared.request.Request.TheVariants.{DeleteAll}
use Rattle.ordered_lists.specs.Ordered.{InOrder}
use Rattle.world_model.specs.network_model.declared.link.LinkEnd.{LinkEnd}
use Rattle.world_model.specs.Sent.{numbered}

-- *Numbers rise*: of two redirection messages under one instance the later one has no lesser number, and a greater one
-- where it is of a later frame
abbrev pub number_under : List Frame → Mark → Option Numbered
number_under frames mark = option_and_then numbered (ifmp_under frames mark)

abbrev pub Rises : List Frame → (earlier later : Cell) → Type 0
Rises frames earlier later =
    (one other : Numbered) → number_under frames earlier.mark ≡ Some one → number_under frames later.mark ≡ Some other
    → one.sender.0 ≡ other.sender.0 → (one.number ≤ other.number) × (earlier.header.last ≡ true → one.number < other.number)

abbrev pub AreRising : World → (from to : LinkEnd) → Type 0
AreRising w from to = InOrder (Rises w.notes.frames) (on_default_channel w from to)

-- and none comes below the number that its receiver expects, or that its sender knows to be expected
pub record IsInOrder (w : World) (from to : LinkEnd) : Type 0 where
  pub rising : AreRising w from to
  pub expected : IsNotOverdue w from to
  pub known : IsKnownRightly w from to

-- *What is said on each way of each link* is in the order of its numbers
abbrev pub AreInOrder : Past → Type 0
AreInOrder past = (way : Way) → IsWay past.topology way → IsInOrder past.now way.down way.up

-- *A request concerns an input* where it is on it, or is Delete All of its port. Verify Tree and Port Management are never asked
abbrev pub concerns : (input : End) → Request → Bool
concerns input (AddBranch on output) = same_end input on
concerns input (MoveBranch on from to) = same_end input on
concerns input (DeleteTree on) = same_end input on
concerns input (DeleteAll port) = port.0 == input.port.0
concerns input request = false

-- of two copies of requests that concern an input, the later one has no lesser number
abbrev pub IsBefore : List Frame → (input : End) → (earlier later : Cell) → Type 0
IsBefore frames input earlier later =
    (one other : Standing) → copy_under frames earlier.mark ≡ Some one → copy_under frames later.mark ≡ Some other
    → concerns input one.request ≡ true → concerns input other.request ≡ true → one.number ≤ other.number

abbrev pub AreCopiesInOrder : World → NodeId → (input : End) → Type 0
AreCopiesInOrder w node input = InOrder (IsBefore w.notes.frames input) (on_channel default_channel (to_switch w node))

-- an input that is a label of a port of a link
pub record IsLabelInput (c : Controller) (input : End) : Type 0 where
  pub linked : Linked
  pub number : ℕ
  pub there : linked_at c linked.setup.port ≡ Some linked
  pub in_range : is_in_range linked.setup number ≡ true
  pub is : input ≡ label_end linked.setup.port number

-- *Each input that is a label of a port of a link*, while its controller is in Estab with its switch
abbrev pub AreAllCopiesInOrder : Past → Type 0
AreAllCopiesInOrder past = (node : NodeId) (site : Site) → site_at past.now node ≡ Some site
    → site.controller.adjacency.state ≡ Estab → (input : End) → IsLabelInput site.controller input → AreCopiesInOrder past.now node input
