use Rattle.std.proofs.Common.{◌≡◌, ◌++◌}
use Rattle.commit_sink.specs.Pages.{joined}
use Rattle.commit_sink.proofs.pages.Tail.append_to.Given as goal

-- the pages so far stand behind the others
abbrev pub invariant-loop-page : goal.invariant-loop-page
invariant-loop-page g l = l.all.items ++ joined l.page-iterator.rest.items ≡ l.fn.all.items ++ joined l.initial.page-iterator.rest.items
