-- each queue shows one list to each channel: by place and channel

use Rattle.std.proofs.Common.{◌≡◌, ◌≢◌, ℕ, Bool, true, false, true≢false, List, [], ◌∷◌, ◌++◌, map, length, refl, sym, ◌∙◌, ap, ap₂, subst, arith, ◌⊎◌, inl, inr, if◌then◌else◌}
use Rattle.std.specs.Prelude.{◌==◌}
use Rattle.std.specs.List.{range_with_len}
use Rattle.std.proofs.lemmas.Bool.Decides.{nat_tests}
use Rattle.law_cell_lists.specs.world_model.Words.{NodeId, PortNo, Place, Down, Up, Out, Channel, Mark, channel_on_control, Cell, frame_cells, same_channel, on_channel}
use Rattle.law_lifetimes.specs.aal5_frames.Frame.{cell_of, cells_for, pdu_of}
use Rattle.law_lifetimes.proofs.aal5_frames.Cells.{cells_all, length-pdu_of}
use Rattle.law_controller_bindings.specs.ordered_lists.Ordered.{Every}
use Rattle.law_controller_bindings.proofs.law_port_facts.Keyed.{by_eq}

-- *Channels*
pub channels_are : (a b : Channel) → same_channel a b ≡ true → a ≡ b
channels_are a b e = by_eq a.vpi b.vpi (λ vpi t. by_eq a.vci b.vci (λ vci s. ap₂ (λ (x y : ℕ). record { vpi = x; vci = y }) vpi vci) (λ n s. absurd (true≢false (sym e ∙ both t s)))) (λ n t. absurd (true≢false (sym e ∙ one t)))
  where
    both : (a.vpi == b.vpi) ≡ true → (a.vci == b.vci) ≡ false → same_channel a b ≡ false
    both t s = grind (arith, nat_tests)

    one : (a.vpi == b.vpi) ≡ false → same_channel a b ≡ false
    one t = grind (arith, nat_tests)

pub channel_self : (a : Channel) → same_channel a a ≡ true
channel_self a = grind (arith, nat_tests)

pub channels_apart : (a b : Channel) → a ≢ b → same_channel a b ≡ false
channels_apart a b n = by (same_channel a b) refl
  where
    by : (t : Bool) → same_channel a b ≡ t → t ≡ false
    by true e = absurd (n (channels_are a b e))
    by false e = refl

same_channels : (a b : Channel) → (a ≡ b) ⊎ (a ≢ b)
same_channels a b = by (same_channel a b) refl
  where
    by : (t : Bool) → same_channel a b ≡ t → (a ≡ b) ⊎ (a ≢ b)
    by true e = inl (channels_are a b e)
    by false e = inr (λ is. true≢false (sym (channel_self a) ∙ ap (same_channel a) is ∙ e))

-- *Spots*: a place and a channel
pub record Spot : Type 0 where
  pub place : Place
  pub channel : Channel

pub same_number : (a b : ℕ) → (a ≡ b) ⊎ (a ≢ b)
same_number a b = by_eq a b (λ e t. inl e) (λ n t. inr n)

number_of_place : Place → ℕ
number_of_place (Down node) = node.0
number_of_place (Up node) = node.0
number_of_place (Out node port) = node.0

same_places : (a b : Place) → (a ≡ b) ⊎ (a ≢ b)
unfolding number_of_place
same_places (Down m) (Down n) = elim (same_number m.0 n.0) [ inl e ↦ inl (ap (λ (x : ℕ). Down (record { 0 = x })) e) | inr d ↦ inr (λ e. d (ap number_of_place e)) ]
same_places (Down m) (Up n) = inr (λ e. cc e)
same_places (Down m) (Out n q) = inr (λ e. cc e)
same_places (Up m) (Down n) = inr (λ e. cc e)
same_places (Up m) (Up n) = elim (same_number m.0 n.0) [ inl e ↦ inl (ap (λ (x : ℕ). Up (record { 0 = x })) e) | inr d ↦ inr (λ e. d (ap number_of_place e)) ]
same_places (Up m) (Out n q) = inr (λ e. cc e)
same_places (Out m p) (Down n) = inr (λ e. cc e)
same_places (Out m p) (Up n) = inr (λ e. cc e)
same_places (Out m p) (Out n q) = elim (same_number m.0 n.0) [
  | inl e ↦ elim (same_number p.0 q.0) [
    | inl f ↦ inl (ap₂ (λ (x y : ℕ). Out (record { 0 = x }) (record { 0 = y })) e f)
    | inr d ↦ inr (λ h. (let same : p ≡ q = cc in d (ap (λ (x : PortNo). x.0) same)))
  ]
  | inr d ↦ inr (λ h. d (ap number_of_place h))
]

pub same_spot : (a b : Spot) → (a ≡ b) ⊎ (a ≢ b)
same_spot a b = elim (same_places a.place b.place) [
  | inl e ↦ elim (same_channels a.channel b.channel) [
    | inl f ↦ inl (ap₂ (λ (x : Place) (y : Channel). record { place = x; channel = y }) e f)
    | inr d ↦ inr (λ h. d (ap (λ (s : Spot). s.channel) h))
  ]
  | inr d ↦ inr (λ h. d (ap (λ (s : Spot). s.place) h))
]

-- *The list that a queue shows*
pub on_head : (channel : Channel) (c : Cell) (cells : List Cell) → same_channel c.header.channel channel ≡ true → on_channel channel (c ∷ cells) ≡ c ∷ on_channel channel cells
on_head channel c cells e = ap (λ (b : Bool). if b then c ∷ on_channel channel cells else on_channel channel cells) e

pub on_other : (channel : Channel) (c : Cell) (cells : List Cell) → same_channel c.header.channel channel ≡ false → on_channel channel (c ∷ cells) ≡ on_channel channel cells
on_other channel c cells e = ap (λ (b : Bool). if b then c ∷ on_channel channel cells else on_channel channel cells) e

pub on_join : (channel : Channel) (xs ys : List Cell) → on_channel channel (xs ++ ys) ≡ on_channel channel xs ++ on_channel channel ys
on_join channel [] ys = refl
on_join channel (c ∷ xs) ys = by (same_channel c.header.channel channel) refl (on_join channel xs ys)
  where
    by : (b : Bool) → same_channel c.header.channel channel ≡ b → on_channel channel (xs ++ ys) ≡ on_channel channel xs ++ on_channel channel ys → on_channel channel (c ∷ xs ++ ys) ≡ on_channel channel (c ∷ xs) ++ on_channel channel ys
    by true e more = on_head channel c (xs ++ ys) e ∙ ap (λ l. c ∷ l) more ∙ ap (λ l. l ++ on_channel channel ys) (sym (on_head channel c xs e))
    by false e more = on_other channel c (xs ++ ys) e ∙ more ∙ ap (λ l. l ++ on_channel channel ys) (sym (on_other channel c xs e))

abbrev pub IsOn : Channel → Cell → Type 0
IsOn channel c = c.header.channel ≡ channel

pub on_all : (channel : Channel) (cells : List Cell) → Every (IsOn channel) cells → on_channel channel cells ≡ cells
on_all channel [] h = refl
on_all channel (c ∷ cells) h = on_head channel c cells (ap (λ (x : Channel). same_channel x channel) h.0 ∙ channel_self channel) ∙ ap (λ l. c ∷ l) (on_all channel cells h.1)

pub on_none : (channel other : Channel) (cells : List Cell) → channel ≢ other → Every (IsOn channel) cells → on_channel other cells ≡ []
on_none channel other [] n h = refl
on_none channel other (c ∷ cells) n h = on_other other c cells (ap (λ (x : Channel). same_channel x other) h.0 ∙ channels_apart channel other n) ∙ on_none channel other cells n h.1

-- *The cells of a frame* are on its channel
every_value : (P : Cell → Type 0) (f : ℕ → Cell) (ns : List ℕ) → ((k : ℕ) → P (f k)) → Every P (map f ns)
every_value P f [] each = tt
every_value P f (n ∷ ns) each = (each n, every_value P f ns each)

pub frame_on : (channel : Channel) (mark : Mark) (payload : List ℕ) → Every (IsOn channel) (frame_cells channel mark payload)
frame_on channel mark payload =
    let octets : List ℕ = pdu_of payload in
    let n : ℕ = cells_for (length payload) in
    subst (Every (IsOn channel)) (sym (cells_all channel mark octets n (length-pdu_of payload))) (every_value (IsOn channel) (cell_of channel mark octets) (range_with_len 0 n) (λ k. refl))

-- *Homes*: a control list yields to a list of a link that leads where it does
abbrev pub yields_at : Place → Bool
yields_at (Down node) = true
yields_at (Up node) = false
yields_at (Out node port) = false

abbrev pub yields : Spot → Bool
yields s = yields_at s.place

abbrev pub home_at : Place → Spot → Spot
home_at (Down node) s = s
home_at (Up node) s = s
home_at (Out node port) s = record { place = Down node; channel = channel_on_control port s.channel }

abbrev pub home : Spot → Spot
home s = home_at s.place s

abbrev pub down : NodeId → Channel → Spot
down node channel = record { place = Down node; channel = channel }

abbrev pub up : NodeId → Channel → Spot
up node channel = record { place = Up node; channel = channel }

abbrev pub out : NodeId → PortNo → Channel → Spot
out node port channel = record { place = Out node port; channel = channel }
