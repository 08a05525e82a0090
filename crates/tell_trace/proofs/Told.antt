-- the lines of links, of bindings and of cells, one after the other

use Rattle.std.proofs.Common.{◌≡◌, ℕ, suc, ◌+◌, List, [], ◌∷◌, ◌++◌, append_assoc, drop, slice_get, take, map, Some, refl, sym, ◌∙◌, ap}
use Rattle.std.specs.List.{flat_map}
use Rattle.std.proofs.lemmas.Grind.{flat_map-append}
use Rattle.std.proofs.lemmas.List.Concat.{flat_map-cons}
use Rattle.std.proofs.lemmas.List.{map-append}
use Rattle.net_types.specs.declared.number.Mark.{Mark}
use Rattle.link_model.specs.declared.frames.Frame.{Frame}
use Rattle.link_model.specs.declared.record.Record.{Record}
use Rattle.world_model.specs.Topology.{Topology, Link}
use Rattle.telling_model.specs.declared.standing.Standing.{Standing}
use Rattle.tell_trace.specs.Passages.{Passage, Linked, passage_line, passage_lines}
use Rattle.tell_trace.specs.Trace.{Told, behind, bind_told, cell_told, cells_told}
use Rattle.tell_trace.proofs.Along.{append_none, take_push, drop_pull, next_told, rest_told}

pub lines_append : (t : Topology) (xs ys : List Passage) → passage_lines t (xs ++ ys) ≡ passage_lines t xs ++ passage_lines t ys
lines_append t xs ys = flat_map-append (passage_line t) xs ys

pub one_line : (t : Topology) (p : Passage) → passage_lines t (p ∷ []) ≡ passage_line t p
one_line t p = flat_map-cons (passage_line t) p [] ∙ append_none (passage_line t p)

-- *Links*
abbrev pub link_told : Link → Passage
link_told link = Linked link.first link.second

abbrev pub links_lines : Topology → List Link → List ℕ
links_lines t links = passage_lines t (map link_told links)

links_join : (t : Topology) (xs ys : List Link) → links_lines t (xs ++ ys) ≡ links_lines t xs ++ links_lines t ys
links_join t xs ys = ap (passage_lines t) (map-append link_told xs ys) ∙ lines_append t (map link_told xs) (map link_told ys)

module _ (t : Topology) (links : List Link) (i : ℕ) (link : Link) (e : slice_get links i ≡ Some link) where
  pub next_link : links_lines t (take i links) ++ passage_line t (link_told link) ≡ links_lines t (take (i + 1) links)
  next_link = next_told (links_lines t) (λ l. passage_line t (link_told l)) (links_join t) (λ l. one_line t (link_told l)) links i link e

  pub rest_links : links_lines t (take i links) ++ (passage_line t (link_told link) ++ links_lines t (drop (suc i) links)) ≡ links_lines t links
  rest_links = rest_told (links_lines t) (λ l. passage_line t (link_told l)) (links_join t) (λ l. one_line t (link_told l)) links i link e

-- *Bindings*
abbrev pub bindings_lines : Topology → List Record → List ℕ
bindings_lines t records = passage_lines t (flat_map bind_told records)

bindings_join : (t : Topology) (xs ys : List Record) → bindings_lines t (xs ++ ys) ≡ bindings_lines t xs ++ bindings_lines t ys
bindings_join t xs ys = ap (passage_lines t) (flat_map-append bind_told xs ys) ∙ lines_append t (flat_map bind_told xs) (flat_map bind_told ys)

one_binding : (t : Topology) (item : Record) → bindings_lines t (item ∷ []) ≡ passage_lines t (bind_told item)
one_binding t item = ap (passage_lines t) (flat_map-cons bind_told item [] ∙ append_none (bind_told item))

module _ (t : Topology) (records : List Record) (i : ℕ) (item : Record) (e : slice_get records i ≡ Some item) where
  pub next_binding : bindings_lines t (take i records) ++ passage_lines t (bind_told item) ≡ bindings_lines t (take (i + 1) records)
  next_binding = next_told (bindings_lines t) (λ r. passage_lines t (bind_told r)) (bindings_join t) (one_binding t) records i item e

  pub rest_bindings : bindings_lines t (take i records) ++ (passage_lines t (bind_told item) ++ bindings_lines t (drop (suc i) records)) ≡ bindings_lines t records
  rest_bindings = rest_told (bindings_lines t) (λ r. passage_lines t (bind_told r)) (bindings_join t) (one_binding t) records i item e

-- *Cells*
module _ (frames : List Frame) where
  cells_then : (marks : List Mark) (xs ys : List Standing)
      → cells_told frames marks (xs ++ ys) ≡ behind (cells_told frames marks xs) (cells_told frames (cells_told frames marks xs).marks ys)
  cells_then marks [] ys = refl
  cells_then marks (x ∷ xs) ys =
      let first : Told = cell_told frames marks x.place x.cell in
      let others : Told = cells_told frames first.marks xs in
      ap (behind first) (cells_then first.marks xs ys)
      ∙ ap (λ (ps : List Passage). record { passages = ps; marks = (cells_told frames others.marks ys).marks })
      (sym (append_assoc first.passages others.passages (cells_told frames others.marks ys).passages))

  one_cell : (marks : List Mark) (x : Standing) → cells_told frames marks (x ∷ []) ≡ cell_told frames marks x.place x.cell
  one_cell marks x =
      let first : Told = cell_told frames marks x.place x.cell in
      ap (λ (ps : List Passage). record { passages = ps; marks = first.marks }) (append_none first.passages)

  module _ (marks : List Mark) (xs : List Standing) (i : ℕ) (x : Standing) (e : slice_get xs i ≡ Some x) where
    abbrev pub so_far : Told
    so_far = cells_told frames marks (take i xs)

    next_is : cells_told frames marks (take (i + 1) xs) ≡ behind so_far (cell_told frames so_far.marks x.place x.cell)
    next_is =
        ap (cells_told frames marks) (take_push xs i x e) ∙ cells_then marks (take i xs) (x ∷ []) ∙ ap (behind so_far) (one_cell so_far.marks x)

    pub next_marks : (cell_told frames so_far.marks x.place x.cell).marks ≡ (cells_told frames marks (take (i + 1) xs)).marks
    next_marks = ap (λ (told : Told). told.marks) (sym next_is)

    pub next_cell : (t : Topology) → passage_lines t so_far.passages ++ passage_lines t (cell_told frames so_far.marks x.place x.cell).passages
        ≡ passage_lines t (cells_told frames marks (take (i + 1) xs)).passages
    next_cell t =
        sym (lines_append t so_far.passages (cell_told frames so_far.marks x.place x.cell).passages)
        ∙ ap (λ (told : Told). passage_lines t told.passages) (sym next_is)

    -- those behind it
    abbrev pub later : Told
    later = cells_told frames (cell_told frames so_far.marks x.place x.cell).marks (drop (suc i) xs)

    pub rest_cells : (t : Topology) → passage_lines t so_far.passages ++ (passage_lines t (cell_told frames so_far.marks x.place x.cell).passages ++ passage_lines t later.passages)
        ≡ passage_lines t (cells_told frames marks xs).passages
    rest_cells t =
        let this : Told = cell_told frames so_far.marks x.place x.cell in
        ap (λ ys. passage_lines t so_far.passages ++ ys) (sym (lines_append t this.passages later.passages))
        ∙ sym (lines_append t so_far.passages (this.passages ++ later.passages))
        ∙ ap (λ (told : Told). passage_lines t told.passages) (sym (cells_then marks (take i xs) (x ∷ drop (suc i) xs)))
        ∙ ap (λ (ys : List Standing). passage_lines t (cells_told frames marks ys).passages) (sym (drop_pull xs i x e))

    -- so it is where its frame is told by marks that are these
    pub rest_by : (t : Topology) (known : List Mark) → known ≡ so_far.marks
        → passage_lines t so_far.passages ++ (passage_lines t (cell_told frames known x.place x.cell).passages ++ passage_lines t later.passages)
        ≡ passage_lines t (cells_told frames marks xs).passages
    rest_by t known same =
        ap (λ (ms : List Mark). passage_lines t so_far.passages ++ (passage_lines t (cell_told frames ms x.place x.cell).passages ++ passage_lines t later.passages)) same
        ∙ rest_cells t

-- *An event*: what it took, what it put, and what it bound, by the frames and records that are seen of the notes
module _ (t : Topology) (before : List Passage) (marks : List Mark) (cells : List Standing) where
  pub whole_event : (frames seen : List Frame) → seen ≡ frames → (records found : List Record) → found ≡ records
      → passage_lines t before ++ (passage_lines t (cells_told seen marks cells).passages ++ passage_lines t (flat_map bind_told found))
      ≡ passage_lines t (before ++ ((cells_told frames marks cells).passages ++ flat_map bind_told records))
  whole_event frames seen same records found is =
      ap (λ (fs : List Frame). passage_lines t before ++ (passage_lines t (cells_told fs marks cells).passages ++ passage_lines t (flat_map bind_told found))) same
      ∙ ap (λ (rs : List Record). passage_lines t before ++ (passage_lines t (cells_told frames marks cells).passages ++ passage_lines t (flat_map bind_told rs))) is
      ∙ ap (λ xs. passage_lines t before ++ xs) (sym (lines_append t (cells_told frames marks cells).passages (flat_map bind_told records)))
      ∙ sym (lines_append t before ((cells_told frames marks cells).passages ++ flat_map bind_told records))
