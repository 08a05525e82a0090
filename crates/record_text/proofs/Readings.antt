-- what is read of octets, where it is written again and compared

use Rattle.std.proofs.Common.{◌≡◌, ℕ, Bool, true, false, List, None, Some, ap, sym, ◌∙◌, subst}
use Rattle.std.specs.Prelude.{◌↔◌, IsTrue}
use Rattle.link_model.specs.declared.record.Record.{Record}
use Rattle.lab_text.specs.Words.{line_text, words}
use Rattle.topology.specs.world_model.Topology.{Topology}
use Rattle.topology.specs.world_model.Conditions.{IsTopology}
use Rattle.script_model.specs.Records.{record_words, IsLineOf}
use Rattle.script_model.proofs.ReadForms.{some_is}
use Rattle.script_model.proofs.Tokens.{words_of_line}
use Rattle.record_text.specs.Reading.{words_tell}
use Rattle.record_text.specs.Readable.{IsReadable, IsRead}
use Rattle.record_text.proofs.Told.{spelled, told}

line_tells : (topology : Topology) (octets : List ℕ) (item : Record) → IsTopology topology → IsReadable topology item
    → IsLineOf topology octets item → words_tell topology (words (line_text octets)) ≡ Some item
line_tells topology octets item is can line =
    ap (λ (o : List ℕ). words_tell topology (words (line_text o))) line.written
    ∙ ap (words_tell topology) (words_of_line (record_words topology item) (spelled topology item is can line.has_line))
    ∙ told topology item is can line.has_line

-- nothing is told
pub read_nothing : (topology : Topology) (octets text : List ℕ) → IsTopology topology → text ≡ line_text octets
    → None ≡ words_tell topology (words text) → IsRead topology octets None
read_nothing topology octets text is same none = record {
  line = λ item e. absurd (cc);
  all = λ item can line. none ∙ ap (λ (t : List ℕ). words_tell topology (words t)) same ∙ line_tells topology octets item is can line;
}

-- a record is told: it is the one that could be
is_told : (topology : Topology) (octets text : List ℕ) (item other : Record) → IsTopology topology → text ≡ line_text octets
    → Some item ≡ words_tell topology (words text) → IsReadable topology other → IsLineOf topology octets other → item ≡ other
is_told topology octets text item other is same tells can line =
    some_is item other
    (tells ∙ ap (λ (t : List ℕ). words_tell topology (words t)) same ∙ line_tells topology octets other is can line)

pub read_told : (topology : Topology) (octets text : List ℕ) (item : Record) (has : Bool) → IsTopology topology
    → text ≡ line_text octets → Some item ≡ words_tell topology (words text) → IsTrue has ↔ IsLineOf topology octets item
    → has ≡ true → IsRead topology octets (Some item)
read_told topology octets text item has is same tells compared passes = record {
  line = λ other e. subst (IsLineOf topology octets) (some_is item other e) (compared.0 passes);
  all = λ other can line. ap Some (is_told topology octets text item other is same tells can line);
}

pub read_other : (topology : Topology) (octets text : List ℕ) (item : Record) (has : Bool) → IsTopology topology
    → text ≡ line_text octets → Some item ≡ words_tell topology (words text) → IsTrue has ↔ IsLineOf topology octets item
    → has ≡ false → IsRead topology octets None
read_other topology octets text item has is same tells compared fails = record {
  line = λ other e. absurd (cc);
  all = λ other can line.
      let one : item ≡ other = is_told topology octets text item other is same tells can line in
      let passes : has ≡ true = compared.1 (subst (IsLineOf topology octets) (sym one) line) in
      absurd (cc);
}
