-- What is told of a main graph's outputs as functions.
use Rattle.std.specs.Prelude.{ℕ, ◌+◌, Bool, true, false, List, [], ◌∷◌, ◌++◌, Option, None, codes, count_by, if◌then◌else◌, length, take}
use Rattle.std.specs.Fmt.{decimal}
use Rattle.prime_field.specs.Modulus.{number_of}
use Rattle.prime_field.specs.declared.Modulus.{Modulus}
use Rattle.graph_file.specs.declared.graph.Graph.{Graph}
use Rattle.good_attempt.specs.declared.gap.Gap.{Gap}
use Rattle.output_result.specs.Results.{Result}
use Rattle.output_result.specs.Texts.{Report, all_found, is_found, results_text}
use Rattle.reconstruction.specs.Form.{variables_of}
use Rattle.reconstruction.specs.Functions.{Findings, Exhausted, Found}
use Rattle.flow_program.specs.declared.manner.Manner.{Manner}
use Rattle.flow_program.specs.declared.manner.Manner.TheVariants as manner
use Rattle.flow_program.specs.Answer.{Answer, refusal}
use Rattle.flow_program.specs.Demo.{ended_lines}
use Rattle.flow_program.specs.Refusals.{singular_node}
use Rattle.flow_program.specs.Sampled.{names_at}

-- the line of attempt r, whose first point without values this gap tells
abbrev pub attempt_line : List (List ℕ) → ℕ → Gap → List ℕ
attempt_line names r gap = codes "attempt " ++ decimal r ++ codes " point " ++ decimal gap.point ++ codes " " ++ singular_node names gap.node gap.cause ++ codes "\n"

-- the lines of the attempts from r on
abbrev pub attempt_lines : List (List ℕ) → ℕ → List Gap → List ℕ
attempt_lines names r [] = []
attempt_lines names r (gap ∷ later) = attempt_line names r gap ++ attempt_lines names (r + 1) later

-- no attempt at the modulus has a value at each of its points
abbrev pub exhausted_text : List (List ℕ) → Modulus → List Gap → List ℕ
exhausted_text names modulus gaps = codes "flow: modulus " ++ decimal (number_of modulus) ++ codes " exhausted\n" ++ attempt_lines names 0 gaps

-- the text that tells results, in these names of the variables, with these reports
abbrev pub Telling : Type 0
Telling = List (List ℕ) → (ℕ → Report) → List Result → List ℕ

-- nothing is reported
abbrev pub no_reports : ℕ → Report
no_reports number = None

-- a report where it is to be told, and nothing otherwise; and so those of all outputs
abbrev pub told_report : Bool → Report → Report
told_report true report = report
told_report false report = None

abbrev pub told_reports : Bool → (ℕ → Report) → ℕ → Report
told_reports true reports = reports
told_reports false reports = no_reports

-- the four lines that stand before the first function of the demo of size n: the size, how many points an attempt has, how
-- many outputs there are, and how many of them are functions
abbrev pub demo_counts : ℕ → ℕ → List Result → List (List ℕ)
demo_counts n points results =
    (codes "demo " ++ decimal n) ∷ (codes "points " ++ decimal points) ∷ (codes "outputs " ++ decimal (length results)) ∷ (codes "found " ++ decimal (count_by is_found results)) ∷ []

-- these lines, and that of the first output
abbrev pub demo_text : ℕ → ℕ → Telling
demo_text n points names reports results = ended_lines (demo_counts n points results) ++ results_text names reports (take 1 results)

-- the text of this manner of telling
abbrev pub telling_of : Manner → Telling
telling_of (manner.Lines report) = results_text
telling_of (manner.Demo n points) = demo_text n points

-- whether reports are told with it
abbrev pub asks_reports : Manner → Bool
asks_reports (manner.Lines report) = report
asks_reports (manner.Demo n points) = false

-- this text, with status 0 where each output is a function
abbrev pub results_answer : List ℕ → List Result → Answer
results_answer text results = record { status = if all_found results then 0 else 1; out = text; err = [] }

-- what is told of findings on a graph's outputs, with these reports
abbrev pub findings_answer : Telling → Option Graph → (ℕ → Report) → Findings → Answer
findings_answer telling graph reports (Exhausted modulus gaps) = refusal 5 (exhausted_text (names_at graph) modulus gaps)
findings_answer telling graph reports (Found results) = results_answer (telling (variables_of graph) reports results) results
