-- The texts of faults with their places.
use Rattle.std.specs.Prelude.{ℕ, false, List, [], ◌∷◌, ◌++◌, Option, Some, None, codes, ◌==◌, if◌then◌else◌}
use Rattle.std.specs.Borrow.{Bor}
use Rattle.std.specs.Fmt.{decimal, digits}
use Rattle.std.specs.List.{list_all}
use Rattle.stream_ident.specs.Alphabet.{is_printable}
use Rattle.stream_script.specs.FaultTexts.{kind_text}
use Rattle.script_checker.specs.declared.line.LineFault.{LineFault}

-- the text that bytes are, where each is printable
abbrev pub printable_text : List ℕ → Option (List ℕ)
printable_text bytes = if list_all is_printable bytes then Some bytes else None

-- a text that begins with this byte: as it is where that is a quote, else between quotes
abbrev pub quoted : ℕ → List ℕ → List ℕ
quoted first text = if first == 34 then text else 34 ∷ text ++ 34 ∷ []

abbrev pub shown : ℕ → Option (List ℕ) → List ℕ
shown first (Some text) = quoted first text
shown first None = codes "byte 0x" ++ digits 16 false first

-- a word of a line, or its first byte where one of them isn't printable
abbrev pub word_text : List ℕ → List ℕ
word_text [] = codes "end of line"
word_text (first ∷ bytes) = shown first (printable_text (first ∷ bytes))

-- how the line might be mended
abbrev pub hint_text : Option (Bor (List ℕ)) → List ℕ
hint_text None = []
hint_text (Some hint) = codes "\n    hint: " ++ hint.now

-- where the fault is, what it is, and what would be right
abbrev pub fault_text : LineFault → List ℕ
fault_text fault =
    codes "line " ++ (decimal fault.fault.line ++ (codes ", column " ++ (decimal fault.column ++ (codes ": "
    ++ (kind_text fault.fault.kind ++ (codes ": " ++ (word_text fault.word.now ++ (codes ": " ++ (fault.expected.now ++ hint_text fault.hint)))))))))
