-- The rows of a switch's branches: a look-up, a write and a scan.

use Rattle.std.proofs.Common.{◌≡◌, ◌≢◌, ℕ, ◌+◌, ◌*◌, ◌/◌, ◌%◌, ◌<◌, ◌≤◌, ◌⊎◌, inl, inr, Bool, true, false, cond, eqb, leb, List, [], ◌∷◌, ◌++◌, length, length-append, get_or, set, replicate, Some, None, IfSome, refl, sym, ap, subst, ◌∙◌, arith, length-set, get_or-set_same, get_or-set_other, zero, suc}
use Rattle.std.specs.Prelude.{All, Option, is_some}
use Rattle.std.specs.List.{list_all, list_any}
use Rattle.std.specs.FinMap.{get, insert, remove, empty, keys}
use Rattle.std.proofs.Math.ListN.{get_or-append}
use Rattle.std.proofs.Math.Seq.{get_or-append_seam}
use Rattle.std.proofs.lemmas.Bool.{cases_lt, cases_eq}
use Rattle.std.proofs.lemmas.Bool.Decides.{nat_tests}
use Rattle.std.proofs.lemmas.List.{length-replicate}
use Rattle.net_types.specs.declared.node.PortNo.{PortNo}
use Rattle.net_types.specs.declared.channel.End.{End}
use Rattle.crossbar_model.specs.declared.branch.Branch.{Branch}
use Rattle.crossbar_model.specs.Channels.{IsLinkPort, is_connectable}
use Rattle.crossbar_model.specs.Crossbar.{Branches, first_on}
use Rattle.fabric.specs.Table.{end_at, end_of, entry_at, branches_in, columns_of, IsTable, Table}
use Rattle.fabric.proofs.Channels.{place_is, end_at-of, stands}
use Rattle.fabric.proofs.Tables.{get_at, get_none, inserted, removed, nothing, first_is, first_none, all_keys}

abbrev Rows : Type 0
Rows = List (List (Option Branch))

pub entry_of : (rows : Rows) (row column : ℕ) → column < 15888 → entry_at rows (15888 * row + column) ≡ get_or (get_or rows row []) column None
entry_of rows row column most =
    let high : (15888 * row + column) / 15888 ≡ row = omega (arith, most) in
    let rest : (15888 * row + column) % 15888 ≡ column = omega (arith, most) in
    rw (high, rest) refl

-- *A look-up*

pub found : (rows : Rows) (row column : ℕ) (e : End) → row < 16 → column < 15888 → end_of row column ≡ e → get_or (get_or rows row []) column None ≡ get (branches_in rows) e
unfolding branches_in
found rows row column e low most is =
    sym (entry_of rows row column most) ∙ sym (get_at (entry_at rows) (15888 * 16) (15888 * row + column) (omega (arith, low, most)))
    ∙ ap (get (branches_in rows)) (place_is row column e most is)

pub not_found : (rows : Rows) (e : End) → ((n : ℕ) → n < 15888 * 16 → end_at n ≢ e) → None ≡ get (branches_in rows) e
unfolding branches_in
not_found rows e none = sym (get_none (entry_at rows) (15888 * 16) e none)

-- a branch that was found
pub record Connects (ports : List PortNo) (vpis : ℕ) (e : End) (b : Branch) : Type 0 where
  pub input : is_connectable ports vpis e ≡ true
  pub output : is_connectable ports vpis b.output ≡ true
  pub port : b.output.port.0 ≤ 8

pub connects : (ports : List PortNo) (vpis : ℕ) (rows : Rows) (row column : ℕ) (e : End) (o : Option Branch) → IsTable ports vpis rows → column < 15888 → end_of row column ≡ e → get_or (get_or rows row []) column None ≡ o → IfSome o (Connects ports vpis e)
connects ports vpis rows row column e None is most at read = tt
connects ports vpis rows row column e (Some b) is most at read =
    let connected = is.connectable (15888 * row + column) b (entry_of rows row column most ∙ read) in
    record {
      input = subst (λ (x : End). is_connectable ports vpis x ≡ true) (place_is row column e most at) connected.0;
      output = connected.1;
      port = (stands ports vpis b.output is.of_links is.some is.few connected.1).port;
    }

pub some_with : {A : Type 0} (P Q : A → Type 0) (o : Option A) → ((a : A) → P a → Q a) → IfSome o P → IfSome o Q
some_with P Q None to h = h
some_with P Q (Some a) to h = to a h

-- *A write*

module _ (ports : List PortNo) (vpis : ℕ) (rows : Rows) (row column : ℕ) (v : Option Branch) (is : IsTable ports vpis rows) (low : row < 16) (most : column < 15888) (inside : column < columns_of ports vpis row) where
  abbrev pub written : Rows
  written = set rows row (set (get_or rows row []) column v)

  within : row < length rows
  within = omega (arith, low, is.sixteen)

  inside_row : column < length (get_or rows row [])
  inside_row = rw (is.columns row low) inside

  entry_written : entry_at written (15888 * row + column) ≡ v
  entry_written =
      entry_of written row column most
      ∙ ap (λ (r : List (Option Branch)). get_or r column None) (get_or-set_same rows row (set (get_or rows row []) column v) [] within)
      ∙ get_or-set_same (get_or rows row []) column v None inside_row

  entry_left : (n : ℕ) → n ≢ 15888 * row + column → entry_at written n ≡ entry_at rows n
  entry_left n other =
      elim (cases_eq (n / 15888) row) [
        | inl same ↦
            let elsewhere : n % 15888 ≢ column = λ e. other (omega (arith, same, e)) in
            rw (same, get_or-set_same rows row (set (get_or rows row []) column v) [] within) (get_or-set_other (get_or rows row []) column (n % 15888) v None elsewhere)
        | inr apart ↦ ap (λ (r : List (Option Branch)). get_or r (n % 15888) None) (get_or-set_other rows row (n / 15888) (set (get_or rows row []) column v) [] apart)
      ]

  pub table_written : IfSome v (λ b. (is_connectable ports vpis (end_of row column) ≡ true) × (is_connectable ports vpis b.output ≡ true)) → IsTable ports vpis written
  table_written fits = record {
    of_links = is.of_links;
    some = is.some;
    few = is.few;
    sixteen = length-set rows row (set (get_or rows row []) column v) ∙ is.sixteen;
    columns = λ r h.
        elim (cases_eq r row) [
          | inl same ↦
              rw (same, get_or-set_same rows row (set (get_or rows row []) column v) [] within)
              (length-set (get_or rows row []) column v ∙ is.columns row low)
          | inr apart ↦ rw (get_or-set_other rows row r (set (get_or rows row []) column v) [] apart) (is.columns r h)
        ];
    connectable = λ n b e.
        elim (cases_eq n (15888 * row + column)) [
          | inl same ↦
              let value : v ≡ Some b = sym entry_written ∙ subst (λ (k : ℕ). entry_at written k ≡ Some b) same e in
              let fit = subst (λ (o : Option Branch). IfSome o (λ c. (is_connectable ports vpis (end_of row column) ≡ true) × (is_connectable ports vpis c.output ≡ true))) value fits in
              (subst (λ (x : End). is_connectable ports vpis x ≡ true) (sym (end_at-of row column most) ∙ ap end_at (sym same)) fit.0, fit.1)
          | inr apart ↦ is.connectable n b (sym (entry_left n apart) ∙ e)
        ];
  }

  pub map_inserted : (b : Branch) (e : End) → v ≡ Some b → end_of row column ≡ e → branches_in written ≡ insert (branches_in rows) e b
  unfolding branches_in
  map_inserted b e value at =
      inserted (entry_at rows) (entry_at written) (15888 * 16) (15888 * row + column) (omega (arith, low, most)) (λ j h n. entry_left j n) b (entry_written ∙ value)
      ∙ ap (λ (x : End). insert (branches_in rows) x b) (place_is row column e most at)

  pub map_removed : (e : End) → v ≡ None → end_of row column ≡ e → branches_in written ≡ remove (branches_in rows) e
  unfolding branches_in
  map_removed e value at =
      removed (entry_at rows) (entry_at written) (15888 * 16) (15888 * row + column) (omega (arith, low, most)) (λ j h n. entry_left j n) (entry_written ∙ value)
      ∙ ap (λ (x : End). remove (branches_in rows) x) (place_is row column e most at)

-- *Rows without a branch*

pub record AreEmpty (ports : List PortNo) (vpis : ℕ) (rows : Rows) : Type 0 where
  pub each : (r : ℕ) → r < length rows → get_or rows r [] ≡ replicate (columns_of ports vpis r) None

none_at : (rows : Rows) (r : ℕ) (n k : ℕ) → (r < length rows → get_or rows r [] ≡ replicate n None) → get_or (get_or rows r []) k None ≡ None
none_at rows r n k each =
    elim (cases_lt r (length rows)) [
      | inl h ↦ rw (each h) (nones n k)
      | inr h ↦ rw (beyond rows r h) refl
    ]
  where
    nones : (n k : ℕ) → get_or (replicate {A = Option Branch} n None) k None ≡ None
    nones zero k = refl
    nones (suc n) zero = refl
    nones (suc n) (suc k) = nones n k

    beyond : (rs : Rows) (r : ℕ) → length rs ≤ r → get_or rs r [] ≡ []
    beyond [] r h = refl
    beyond (x ∷ rs) zero h = absurd (omega (arith, h))
    beyond (x ∷ rs) (suc r) h = beyond rs r (omega (arith, h))

pub entries_none : (ports : List PortNo) (vpis : ℕ) (rows : Rows) (n : ℕ) → AreEmpty ports vpis rows → entry_at rows n ≡ None
entries_none ports vpis rows n are = none_at rows (n / 15888) (columns_of ports vpis (n / 15888)) (n % 15888) (are.each (n / 15888))

pub map_empty : (ports : List PortNo) (vpis : ℕ) (rows : Rows) → AreEmpty ports vpis rows → branches_in rows ≡ empty
unfolding branches_in
map_empty ports vpis rows are = nothing (entry_at rows) (15888 * 16) (λ j h. entries_none ports vpis rows j are)

pub table_empty : (ports : List PortNo) (vpis : ℕ) (rows : Rows) → All IsLinkPort ports → 1 ≤ vpis → vpis ≤ 16 → length rows ≡ 16 → AreEmpty ports vpis rows → IsTable ports vpis rows
table_empty ports vpis rows links some few sixteen are = record {
  of_links = links;
  some = some;
  few = few;
  sixteen = sixteen;
  columns = λ r h. rw (are.each r (omega (arith, h, sixteen))) (length-replicate (columns_of ports vpis r) None);
  connectable = λ n b e. absurd (cc (sym (entries_none ports vpis rows n are) ∙ e));
}

-- *A scan*

-- no entry in the rows before this one is of the port
pub record IsPast (rows : Rows) (port row : ℕ) : Type 0 where
  pub before : (n : ℕ) → n / 15888 < row → (eqb (end_at n).port.0 port ≡ false) ⊎ (entry_at rows n ≡ None)

unused : (o : Option Branch) → is_some o ≡ false → o ≡ None
unused None h = refl
unused (Some b) h = absurd (cc h)

pub past_one : (rows : Rows) (port row : ℕ) → IsPast rows port row → ((j : ℕ) → j < length (get_or rows row []) → is_some (get_or (get_or rows row []) j None) ≡ false) → IsPast rows port (row + 1)
past_one rows port row past none = record {
  before = λ n h.
      elim (cases_lt (n / 15888) row) [
        | inl less ↦ past.before n less
        | inr level ↦
            let same : n / 15888 ≡ row = omega (arith, h, level) in
            inr (rw same (here (n % 15888)))
      ];
}
  where
    beyond : (r : List (Option Branch)) (k : ℕ) → length r ≤ k → get_or r k None ≡ None
    beyond [] k h = refl
    beyond (x ∷ r) zero h = absurd (omega (arith, h))
    beyond (x ∷ r) (suc k) h = beyond r k (omega (arith, h))

    here : (k : ℕ) → get_or (get_or rows row []) k None ≡ None
    here k =
        elim (cases_lt k (length (get_or rows row []))) [
          | inl h ↦ unused (get_or (get_or rows row []) k None) (none k h)
          | inr h ↦ beyond (get_or rows row []) k h
        ]

used : (o : Option Branch) → is_some o ≡ true → (b : Branch) × (o ≡ Some b)
used None h = absurd (cc h)
used (Some b) h = (b, refl)

pub first_here : (rows : Rows) (p : PortNo) (row column : ℕ) → row < 16 → column < 15888 → IsPast rows p.0 row → (end_of row column).port ≡ p → is_some (get_or (get_or rows row []) column None) ≡ true → ((j : ℕ) → j < column → is_some (get_or (get_or rows row []) j None) ≡ false)
    → first_on (branches_in rows) p ≡ Some (end_of row column)
unfolding branches_in
first_here rows p row column low most past port some before =
    let (b, is) = used (get_or (get_or rows row []) column None) some in
    let same : (end_at (15888 * row + column)).port.0 ≡ p.0 = ap (λ (e : End). e.port.0) (end_at-of row column most) ∙ ap (λ (q : PortNo). q.0) port in
    first_is (λ e. eqb e.port.0 p.0) (entry_at rows) (15888 * row + column) (15888 * 16) b (omega (arith, low, most)) (entry_of rows row column most ∙ is)
    (grind (arith, nat_tests, same))
    (λ i h.
    elim (cases_lt (i / 15888) row) [
      | inl less ↦ past.before i less
      | inr level ↦
          let at : i / 15888 ≡ row = omega (arith, h, level, most) in
          inr (rw at (unused (get_or (get_or rows row []) (i % 15888) None) (before (i % 15888) (omega (arith, h, at, most)))))
    ])
    ∙ ap Some (end_at-of row column most)

pub first_nowhere : (rows : Rows) (p : PortNo) (row : ℕ) → IsPast rows p.0 row → ((n : ℕ) → n < 15888 * 16 → row ≤ n / 15888 → eqb (end_at n).port.0 p.0 ≡ false) → first_on (branches_in rows) p ≡ None
unfolding branches_in
first_nowhere rows p row past after =
    first_none (λ e. eqb e.port.0 p.0) (entry_at rows) (15888 * 16)
    (λ i h.
    elim (cases_lt (i / 15888) row) [
      | inl less ↦ past.before i less
      | inr more ↦ inl (after i h more)
    ])

pub ports_within : (ports : List PortNo) (vpis : ℕ) (rows : Rows) → IsTable ports vpis rows → list_all (λ input. leb input.port.0 8) (keys (branches_in rows)) ≡ true
unfolding branches_in
ports_within ports vpis rows is =
    all_keys (λ e. leb e.port.0 8) (entry_at rows) (15888 * 16)
    (λ i b e. let port = (stands ports vpis (end_at i) is.of_links is.some is.few (is.connectable i b e).0).port in grind (arith, nat_tests, port))

pub differs : (x y : ℕ) → x ≢ y → eqb x y ≡ false
differs x y h = grind (arith, nat_tests, h)

-- a scan over the rows of a port's channels
pub record AreRowsOf (port : PortNo) (from to : ℕ) : Type 0 where
  pub low : to ≤ 16
  pub order : from ≤ to
  pub these : (row column : ℕ) → from ≤ row → row < to → (end_of row column).port ≡ port
  pub others : (row column : ℕ) → row < 16 → (end_of row column).port.0 ≡ port.0 → (from ≤ row) × (row < to)

pub past_start : (rows : Rows) (p : PortNo) (from to : ℕ) → AreRowsOf p from to → IsPast rows p.0 from
past_start rows p from to are = record {
  before = λ n h. inl (differs (end_at n).port.0 p.0 (λ e. absurd (omega (arith, h, (are.others (n / 15888) (n % 15888) (omega (arith, h, are.low, are.order)) e).0))));
}

pub first_past : (rows : Rows) (p : PortNo) (from to row : ℕ) → AreRowsOf p from to → to ≤ row → IsPast rows p.0 row → first_on (branches_in rows) p ≡ None
first_past rows p from to row are end past =
    first_nowhere rows p row past (λ n h more. differs (end_at n).port.0 p.0 (λ e. absurd (omega (arith, end, more, (are.others (n / 15888) (n % 15888) (omega (arith, h)) e).1))))

-- what a change of the branches is of the whole
pub table_with : (ports : List PortNo) (vpis : ℕ) (m n : Branches) → m ≡ n → ◌≡◌ {A = Table} (record { ports = ports; vpis = vpis; branches = m }) (record { ports = ports; vpis = vpis; branches = n })
table_with ports vpis m n e = ap (λ (x : Branches). let t : Table = record { ports = ports; vpis = vpis; branches = x } in t) e

pub rows_push : (ports : List PortNo) (vpis : ℕ) (rows : Rows) (r : List (Option Branch)) → AreEmpty ports vpis rows → r ≡ replicate (columns_of ports vpis (length rows)) None → AreEmpty ports vpis (rows ++ r ∷ [])
rows_push ports vpis rows r are new = record {
  each = λ k h.
      elim (cases_lt k (length rows)) [
        | inl less ↦ get_or-append rows (r ∷ []) [] k less ∙ are.each k less
        | inr level ↦
            let same : k ≡ length rows = omega (arith, h, level, length-append rows (r ∷ [])) in
            rw same (get_or-append_seam rows r [] [] ∙ new)
      ];
}

pub columns_most : (ports : List PortNo) (vpis : ℕ) (rows : Rows) (row : ℕ) → IsTable ports vpis rows → row < 16 → length (get_or rows row []) ≤ 15888
columns_most ports vpis rows row is h = rw (is.columns row h) (by (list_any (λ p. eqb p.0 (row % 8 + 1)) ports))
  where
    by : (b : Bool) → cond b (993 * vpis) 0 ≤ 15888
    by true = omega (arith, is.few)
    by false = omega arith

pub columns_by : (ports : List PortNo) (vpis row paths : ℕ) (b : Bool) → list_any (λ p. eqb p.0 (row % 8 + 1)) ports ≡ b → paths ≡ cond b vpis 0 → 993 * paths ≡ columns_of ports vpis row
columns_by ports vpis row paths true has e = rw (has, e) refl
columns_by ports vpis row paths false has e = rw (has, e) refl
