mod RefusalCalls
