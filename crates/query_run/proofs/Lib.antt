mod QueryWholeRun
