-- The words of the language: the first words of lines, and the names of refusals. They are this project's own.

use Rattle.std.specs.Prelude.{ℕ, List, [], ◌∷◌, codes, bytes_eq, find, Option}
use Prim.Native.String.{String}
use Rattle.script_model.specs.declared.keyword.Keyword.{Keyword}
use Rattle.script_model.specs.declared.keyword.Keyword.TheVariants as word
use Rattle.script_model.specs.declared.refusal.LineRefusal.{LineRefusal}
use Rattle.script_model.specs.declared.refusal.LineRefusal.TheVariants.{ScriptTooLong, LineTooLong, BadByte, UnknownWord, Arity, BadName, BadNumber, BadAddress, BadPrefix, BadPlace, BadChannel, BadHex, BadLength, Late, DuplicateName, UnknownName, SelfLink, PortTaken, NoLink, Duplicate, TableFull, NoPrefix, TooMany}
use Rattle.script_model.specs.declared.refusal.DocumentRefusal.{DocumentRefusal}
use Rattle.script_model.specs.declared.refusal.DocumentRefusal.TheVariants as document

abbrev pub keyword_string : Keyword → String
keyword_string word.Node = "node"
keyword_string word.Cells = "cells"
keyword_string word.Labels = "labels"
keyword_string word.Link = "link"
keyword_string word.Route = "route"
keyword_string word.Policy = "policy"
keyword_string word.Timers = "timers"
keyword_string word.Version = "version"
keyword_string word.Send = "send"
keyword_string word.Carry = "carry"
keyword_string word.Lose = "lose"
keyword_string word.Tick = "tick"
keyword_string word.TickSwitch = "tickswitch"
keyword_string word.Restart = "restart"
keyword_string word.RestartSwitch = "restartswitch"
keyword_string word.Run = "run"
keyword_string word.Forge = "forge"
keyword_string word.SetRoute = "setroute"
keyword_string word.Unroute = "unroute"

abbrev pub keyword_text : Keyword → List ℕ
keyword_text keyword = codes (keyword_string keyword)

-- the first words of topology lines, and then of event lines
abbrev pub keywords : List Keyword
keywords =
    word.Node ∷ word.Cells ∷ word.Labels ∷ word.Link ∷ word.Route ∷ word.Policy ∷ word.Timers ∷ word.Version
    ∷ word.Send ∷ word.Carry ∷ word.Lose ∷ word.Tick ∷ word.TickSwitch ∷ word.Restart ∷ word.RestartSwitch ∷ word.Run
    ∷ word.Forge ∷ word.SetRoute ∷ word.Unroute ∷ []

abbrev pub keyword_of : List ℕ → Option Keyword
keyword_of text = find (λ keyword. bytes_eq text (keyword_text keyword)) keywords

abbrev pub refusal_string : LineRefusal → String
refusal_string ScriptTooLong = "ScriptTooLong"
refusal_string LineTooLong = "LineTooLong"
refusal_string BadByte = "BadByte"
refusal_string UnknownWord = "UnknownWord"
refusal_string Arity = "Arity"
refusal_string BadName = "BadName"
refusal_string BadNumber = "BadNumber"
refusal_string BadAddress = "BadAddress"
refusal_string BadPrefix = "BadPrefix"
refusal_string BadPlace = "BadPlace"
refusal_string BadChannel = "BadChannel"
refusal_string BadHex = "BadHex"
refusal_string BadLength = "BadLength"
refusal_string Late = "Late"
refusal_string DuplicateName = "DuplicateName"
refusal_string UnknownName = "UnknownName"
refusal_string SelfLink = "SelfLink"
refusal_string PortTaken = "PortTaken"
refusal_string NoLink = "NoLink"
refusal_string Duplicate = "Duplicate"
refusal_string TableFull = "TableFull"
refusal_string NoPrefix = "NoPrefix"
refusal_string TooMany = "TooMany"

abbrev pub refusal_name : LineRefusal → List ℕ
refusal_name refusal = codes (refusal_string refusal)

abbrev pub document_refusal_name : DocumentRefusal → List ℕ
document_refusal_name document.ScriptTooLong = codes "ScriptTooLong"
document_refusal_name document.Toml = codes "Toml"
