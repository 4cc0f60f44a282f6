-- Lists that `==` finds the same are one list.
use Rattle.std.proofs.Common.{rules, ◌≡◌, ℕ, true, subst}
use Rattle.ep_base.specs.declared.answer.Report.{Report}
use Rattle.ep_base.specs.contracts.answer.ReportPartialEq.TheImpl as test_of_reports
use Rattle.ep_base.specs.contracts.ids.EntryNumberPartialEq.TheImpl as test_of_numbers
use Rattle.ep_base.specs.contracts.ids.EntryNumberEq.TheImpl.Laws as law_of_numbers
use Rattle.ep_base.specs.contracts.answer.ReportEq.TheImpl.Laws as law_of_reports

pub same_report : (a b : Report) → (test_of_reports.ghosts.eq a b ≡ true → a ≡ b) × (a ≡ b → test_of_reports.ghosts.eq a b ≡ true)
same_report a b = ((λ e. search rules), λ e. subst (λ r. test_of_reports.ghosts.eq a r ≡ true) e (law_of_reports.laws-law.refl a))

pub same_number : (a b : ℕ) → (test_of_numbers.ghosts.eq a b ≡ true → a ≡ b) × (a ≡ b → test_of_numbers.ghosts.eq a b ≡ true)
same_number a b = ((λ e. search rules), λ e. subst (λ n. test_of_numbers.ghosts.eq a n ≡ true) e (law_of_numbers.laws-law.refl a))
